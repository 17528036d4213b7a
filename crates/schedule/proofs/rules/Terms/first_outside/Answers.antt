-- No record before k is outside the rules; `at` and `before` are where record k and the one before it begin. Assumes nothing.
use native.Mathlib.Omega.{arith}
use mathlib.Core.Path.{◌≡◌, refl, sym, ap, ◌∙◌}
use Prim.Native.Nat.{◌+◌, ◌-◌}
use borrow.Author.Count.{below_more}
use Rattle.lists.proofs.SearchLaws.{least_here, least_none}
use Rattle.schedule.specs.Shape.{place}
use Rattle.schedule.specs.Rules.{outside}
use Rattle.schedule.proofs.Walks.{place_start, place_past, place_low, place_before}
use Rattle.schedule.proofs.rules.Terms.first_outside.Goals as goal

pub loop-k-init : goal.loop-k-init
loop-k-init c = (sym (place_start _), (sym (place_start _), λ j h. let none : ⊥ = omega arith in absurd none))

pub invariant_of-here : goal.invariant_of-here
invariant_of-here c = let t = c.args.records.tally in let s = c.loop-k in record { low = place_low t.bytes.now s.k s.at t.short (omega (arith, t.count_is)) s.invariant.0 }

pub invariant_of-last : goal.invariant_of-last
invariant_of-last c = let t = c.args.records.tally in let bs = t.bytes.now in let s = c.loop-k in let l = place_low bs s.k _ t.short (omega (arith, t.count_is)) refl in record { low = omega (arith, s.invariant.1.0, place_before bs s.k) }

pub returns-then-is_out : goal.returns-then-is_out
returns-then-is_out c = let a = c.args in let t = a.records.tally in let s = c.loop-k in least_here t.count (outside a.self.plan a.self.faults a.self.end t.bytes.now) s.k c.loop-k-test.true s.invariant.1.1 (rw (s.invariant.0, s.invariant.1.0) at (sym c.is_out.ensures ∙ c.if-is_out.true))

pub loop-k-preserved : goal.loop-k-preserved
loop-k-preserved c =
    let bs = c.args.records.tally.bytes.now in
    let s = c.loop-k in
    let q : s.k ≡ s.k + 1 - 1 = omega arith in (
      place_past bs s.k _ s.at _ bs refl refl s.invariant.0 c.end-at.ensures,
      (s.invariant.0 ∙ ap (place bs) q, below_more _ _ s.invariant.1.1 (rw (s.invariant.0, s.invariant.1.0) at (sym c.is_out.ensures ∙ c.if-is_out.false))),
    )

pub returns : goal.returns
returns c = let a = c.args in let t = a.records.tally in let s = c.loop-k in least_none t.count (outside a.self.plan a.self.faults a.self.end t.bytes.now) (λ j h. s.invariant.1.1 j (omega arith))
