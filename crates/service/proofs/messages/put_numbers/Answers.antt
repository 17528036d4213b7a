-- A number more. Assumes nothing.
use borrow.Author.Rules.{rules}
use native.Mathlib.Omega.{arith}
use mathlib.Core.Path.{◌≡◌, ap, ap₂, ◌∙◌}
use mathlib.Core.List.{List, ◌++◌}
use Prim.Native.Nat.{ℕ}
use lib.ListN.{length, drop, get_or, set}
use lib.Seq.{take_all}
use Rattle.service.proofs.Sizes.{put_next}
use Rattle.service.proofs.messages.put_numbers.Goals as goal

pub loop-i-preserved : goal.loop-i-preserved
loop-i-preserved c =
    let l : List ℕ = c.args.numbers in
    let i : ℕ = c.loop-i.i in
    let long : length l ≡ 8 = search rules in
    ap (λ (t : List ℕ). set t i (get_or l i 0)) c.loop-i.invariant ∙ put_next l c.args.out.now i (omega arith) (omega arith)

pub returns : goal.returns
returns c =
    let l : List ℕ = c.args.numbers in
    let long : length l ≡ 8 = search rules in
    let end : c.loop-i.i ≡ 8 = omega arith in
    c.loop-i.invariant ∙ ap₂ (λ (s : List ℕ) (k : ℕ). s ++ drop k c.args.out.now) (take_all c.loop-i.i l (omega arith)) end
