-- The new order goes in its place, and behind it the unused places stay zero. Assumes nothing.
use native.Mathlib.Omega.{arith}
use borrow.Author.Rules.{rules}
use mathlib.Core.Path.{◌≡◌, sym, ap, ap₂, ◌∙◌}
use mathlib.Core.Bool.{true}
use mathlib.Core.List.{List, ◌++◌}
use Prim.Native.Nat.{ℕ, ◌+◌, ◌-◌, ◌<◌}
use lib.ListN.{length, take, drop, get_or, replicate, length-drop}
use lib.Seq.{length-take-le}
use Rattle.lists.specs.Lists.{all, insert, pad}
use Rattle.lists.proofs.Bools.{and_right}
use Rattle.lists.proofs.Loops.{left_next}
use Rattle.lists.proofs.Places.{blanks, length_insert}
use Rattle.host.specs.declared.Held.{Held}
use Rattle.host.specs.State.{no_held, is_no_held, before, with}
use Rattle.host.proofs.Blanks.{only_held}
use Rattle.host.proofs.history.hold.Goals as goal

long : (l : List Held) (n : ℕ) (x : Held) → length l ≡ 32 → n < 32 → length (insert before x (take n l)) ≡ n + 1
long l n x e h = let fits = length-take-le n l (omega arith) in length_insert before x (take n l) ∙ ap (λ (k : ℕ). k + 1) fits

padded : (l : List Held) (n : ℕ) (x : Held) → length l ≡ 32 → n < 32 → all is_no_held (drop n l) ≡ true
    → insert before x (take n l) ++ drop (n + 1) l ≡ pad 32 no_held (insert before x (take n l))
padded l n x e h b =
    let rest = and_right (is_no_held (get_or l n no_held)) (all is_no_held (drop (n + 1) l)) (rw (left_next l no_held n (omega arith)) at b) in
    let left = length-drop (n + 1) l in
    let more = long l n x e h in
    let most : length (drop (n + 1) l) ≡ 32 - length (insert before x (take n l)) = omega arith in
    ap (λ (t : List Held). insert before x (take n l) ++ t) (blanks is_no_held no_held only_held (drop (n + 1) l) rest ∙ ap (λ (k : ℕ). replicate k no_held) most)

pub returns : goal.returns
returns c =
    let a = c.args in
    let h = a.host.now in
    let n : length h.history ≡ 32 = search rules in
    let room : h.held < 32 = c.requires.0 in
    let inside : h.held < length h.history = omega arith in
    ap₂ (λ (l : List Held) (k : ℕ). with h h.last h.starts h.started l k)
    (c.insert.ensures.in_order inside c.requires.1 ∙ padded h.history h.held a.x n room c.requires.2)
    (sym (long h.history h.held a.x n room))
