-- The first k records are right, and `at` is where record k begins. Assumes nothing.
use native.Mathlib.Omega.{arith}
use mathlib.Core.Path.{refl, sym, ◌∙◌}
use mathlib.Core.Bool.{true≢false}
use borrow.Author.Count.{below_more}
use Rattle.lists.proofs.Bools.{false_unless}
use Rattle.lists.proofs.SearchLaws.{each_of, each_true}
use Rattle.schedule.specs.Shape.{right}
use Rattle.schedule.proofs.Walks.{place_start, place_past, place_low}
use Rattle.schedule.proofs.Tallies.{right_here}
use Rattle.schedule.proofs.shape.Tally.all_right.Goals as goal

pub loop-k-init : goal.loop-k-init
loop-k-init c = (sym (place_start _), λ j h. let none : ⊥ = omega arith in absurd none)

pub invariant_of-here : goal.invariant_of-here
invariant_of-here c = let t = c.args.self in let s = c.loop-k in record { low = place_low t.bytes.now s.k s.at t.short (omega (arith, t.count_is)) s.invariant.0 }

pub returns-then-not-is_right : goal.returns-then-not-is_right
returns-then-not-is_right c =
    let t = c.args.self in
    let bs = t.bytes.now in
    let s = c.loop-k in
    let wrong = sym (right_here bs t.links t.starts s.k s.at t.links_are t.starts_are s.invariant.0) ∙ sym c.is_right.ensures ∙ c.if-not-is_right.true in
    sym (false_unless _ (λ e. true≢false (sym (each_true (right bs) _ e s.k (omega (arith, t.count_is))) ∙ wrong)))

pub loop-k-preserved : goal.loop-k-preserved
loop-k-preserved c =
    let t = c.args.self in
    let bs = t.bytes.now in
    let s = c.loop-k in
    let well = sym (right_here bs t.links t.starts s.k s.at t.links_are t.starts_are s.invariant.0) ∙ sym c.is_right.ensures ∙ c.if-not-is_right.false in
    (place_past bs s.k _ s.at _ bs refl refl s.invariant.0 c.end-at.ensures, below_more _ _ s.invariant.1 well)

pub returns : goal.returns
returns c = let t = c.args.self in sym (each_of (right t.bytes.now) _ (λ j h. c.loop-k.invariant.1 j (omega (arith, t.count_is))))
