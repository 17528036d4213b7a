-- Too long, then the shape, then what planning says, then the rules. Assumes nothing.
use native.Mathlib.Omega.{arith}
use mathlib.Core.Path.{sym, ap, ◌∙◌}
use Rattle.std.proofs.lemmas.Result.{err_from_is_err_and}
use Rattle.network.specs.Network.{says, plan_refusal}
use Rattle.network.proofs.Answers.{fine}
use Rattle.network.proofs.Ranges.{ranges}
use Rattle.schedule.proofs.Tallies.{shape}
use Rattle.schedule.proofs.Verdicts.{too_long, right_misshapen, unplanned, right_unplanned, judged, first_is, right_outside, right_accepted}
use Rattle.schedule.proofs.read.Goals as goal

pub returns-then-bytes-gt-LONGEST : goal.returns-then-bytes-gt-LONGEST
returns-then-bytes-gt-LONGEST c = let bs = c.args.bytes.now in let r = right_misshapen bs (too_long bs (omega (arith, c.if-bytes-gt-LONGEST.true))) in record { numbers = r.0; schedule = r.1 }

pub returns-then-not-is_schedule : goal.returns-then-not-is_schedule
returns-then-not-is_schedule c = let r = rw c.of-tally.ensures at (right_misshapen _ (sym c.is_schedule.ensures ∙ c.if-not-is_schedule.true)) in record { numbers = r.0; schedule = r.1 }

pub invariant_of-records : goal.invariant_of-records
invariant_of-records c =
    let t = c.of-tally.result in
    let h = shape t.bytes.now (sym c.is_schedule.ensures ∙ c.if-not-is_schedule.false) in
    record { few_links = omega (arith, h.few_links, t.links_are); few_starts = omega (arith, h.few_starts, t.starts_are); enough = omega (arith, h.enough, t.count_is, t.links_are, t.starts_are) }

pub returns-in_err-bounds : goal.returns-in_err-bounds
returns-in_err-bounds c =
    let p = err_from_is_err_and c.from_residual.result c.from_residual.ensures.1 in
    let r = rw c.of-tally.ensures at (right_unplanned _ (sym c.is_schedule.ensures ∙ c.if-not-is_schedule.false) _ (unplanned _ _ _ c.plan-plan.ensures (sym (ap says c.in_err-bounds.was) ∙ c.plan.ensures))) in
    rw (p.1, p.2) (record { numbers = r.0; schedule = r.1 })

pub invariant_of-terms : goal.invariant_of-terms
invariant_of-terms c =
    let j = judged _ _ _ c.plan-plan.ensures (sym (ap says c.in_ok-bounds.was) ∙ c.plan.ensures) in
    let r = ranges _ (fine _ j.clear).ranges in
    record { hosts_few = r.hosts_high; links_few = r.links_high }

pub returns-then-first-tally : goal.returns-then-first-tally
returns-then-first-tally c =
    let t = c.of-tally.result in
    let j = judged _ _ _ c.plan-plan.ensures (sym (ap says c.in_ok-bounds.was) ∙ c.plan.ensures) in
    let q = first_is _ _ _ _ _ t.count_is j.plan_is c.schedule-schedule.ensures c.first_outside-first.ensures in
    let r = rw c.of-tally.ensures at (right_outside _ (sym c.is_schedule.ensures ∙ c.if-not-is_schedule.false) (sym (ap plan_refusal j.plan_is) ∙ j.clear) _ q (omega (arith, t.count_is))) in
    record { numbers = r.0; schedule = r.1 }

pub returns : goal.returns
returns c =
    let t = c.of-tally.result in
    let j = judged _ _ _ c.plan-plan.ensures (sym (ap says c.in_ok-bounds.was) ∙ c.plan.ensures) in
    let q = first_is _ _ _ _ _ t.count_is j.plan_is c.schedule-schedule.ensures c.first_outside-first.ensures in
    let r = rw c.of-tally.ensures at (right_accepted _ (sym c.is_schedule.ensures ∙ c.if-not-is_schedule.false) (sym (ap plan_refusal j.plan_is) ∙ j.clear) _ c.schedule-schedule.ensures (omega (arith, q, t.count_is))) in
    record { numbers = r.0; schedule = r.1 }
