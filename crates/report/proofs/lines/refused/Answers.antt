-- Its parts, one after the other; the index stands after 32 alone. Assumes nothing.
use mathlib.Core.Path.{ap, ◌∙◌}
use Rattle.report.specs.Text.{item, refused_text}
use Rattle.report.specs.Inside.{Wrote}
use Rattle.report.proofs.Writing.{wrote_then, wrote_none, wrote_as}
use Rattle.report.proofs.Reports.{index_text, no_index}
use Rattle.report.proofs.lines.refused.Goals as goal
use Rattle.report.proofs.lines.refused.Goals.{in-OutsideRules, in_default}

pub returns : goal.returns
unfolding item refused_text
returns c =
    let r = c.args.refusal in
    let named = wrote_as (ap (item "refused ") (c.from-2.ensures ∙ c.from.ensures)) c.item.ensures in
    let told : Wrote c.item.new.self (index_text r) c.match-refusal.w = elim c.match-refusal.branch [
      | in-OutsideRules x ↦ rw (x.in-OutsideRules.is, x.w-is) x.item-in-OutsideRules.ensures
      | in_default x ↦ rw x.w-is (wrote_as (no_index r x.in_default.not-OutsideRules) (wrote_none _))
    ] in
    wrote_then (wrote_then named told) c.put.ensures
