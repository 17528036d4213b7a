-- The list's own insertion, and behind those held the places are unused. Assumes nothing.
use borrow.Author.Rules.{rules}
use native.Mathlib.Omega.{arith}
use mathlib.Core.Path.{◌≡◌, sym, ap, ap₂, ◌∙◌}
use mathlib.Core.Bool.{true}
use mathlib.Core.List.{List, ◌++◌}
use Prim.Native.Nat.{ℕ, ◌+◌, ◌-◌}
use lib.ListN.{length, length-drop, take, drop, get_or, replicate}
use lib.Seq.{length-take-le}
use Rattle.lists.specs.Lists.{all, insert}
use Rattle.lists.proofs.Bools.{and_right}
use Rattle.lists.proofs.Loops.{left_next}
use Rattle.lists.proofs.Places.{blanks, length_insert}
use Rattle.service.specs.declared.HeldMemory.{HeldMemory}
use Rattle.service.specs.Memory.{held_memory}
use Rattle.service.specs.Inside.{memory_with, before_in, unused_in, none}
use Rattle.service.proofs.Back.{only_none}
use Rattle.service.proofs.changes.hold.Goals as goal

pub returns : goal.returns
returns c =
    let f = c.args.memory.now in
    let l : List HeldMemory = f.history in
    let k : ℕ = f.held in
    let y : List HeldMemory = insert before_in (held_memory c.args.x) (take k l) in
    let long : length l ≡ 32 = search rules in
    let some = c.requires.0 in
    let rest : all unused_in (drop (k + 1) l) ≡ true =
    and_right (unused_in (get_or l k none)) (all unused_in (drop (k + 1) l)) (sym (ap (all unused_in) (left_next l none k (omega arith))) ∙ c.requires.2) in
    let behind : drop (k + 1) l ≡ replicate (32 - (k + 1)) none = blanks unused_in none only_none (drop (k + 1) l) rest ∙ ap (λ (n : ℕ). replicate n none) (length-drop (k + 1) l ∙ ap (λ (n : ℕ). n - (k + 1)) long) in
    let size : length y ≡ k + 1 = length_insert before_in (held_memory c.args.x) (take k l) ∙ ap (λ (n : ℕ). n + 1) (length-take-le k l (omega arith)) in
    ap (memory_with f f.last f.started f.starts (k + 1))
    (c.insert.ensures.in_order (omega arith) c.requires.1
    ∙ ap₂ (λ (a b : List HeldMemory). a ++ b) (ap (λ (e : HeldMemory). insert before_in e (take k l)) c.from.ensures) behind
    ∙ ap (λ (n : ℕ). y ++ replicate (32 - n) none) (sym size))
