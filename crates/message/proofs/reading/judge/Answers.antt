-- Field by field from the front, the first verdict that is wrong is the first fault. Assumes nothing.
use mathlib.Core.Path.{ap, ◌∙◌}
use Rattle.fields.specs.Faults.{first}
use Rattle.message.specs.Layout.{ending}
use Rattle.message.proofs.ReadLaws.{handed_on, past_stamp, past_source, past_hop}
use Rattle.message.proofs.reading.judge.Goals as goal

pub returns-in_err-judge_slot : goal.returns-in_err-judge_slot
returns-in_err-judge_slot c = handed_on _ _ _ c.from_residual.result c.in_err-judge_slot.ensures c.from_residual.ensures.1

pub returns-in_err-judge_slot-2 : goal.returns-in_err-judge_slot-2
returns-in_err-judge_slot-2 c =
    let r = c.from_residual-in_err-judge_slot-2 in
    handed_on _ _ _ r.result c.in_err-judge_slot-2.ensures r.ensures.1 ∙ past_stamp c.args.rules c.args.bytes.now c.in_ok-judge_slot.ensures

pub returns-in_err-judge_hop : goal.returns-in_err-judge_hop
returns-in_err-judge_hop c =
    let r = c.from_residual-in_err-judge_hop in
    handed_on _ _ _ r.result c.in_err-judge_hop.ensures r.ensures.1
    ∙ past_source c.args.rules c.args.bytes.now c.in_ok-judge_slot.ensures c.in_ok-judge_slot-2.ensures

pub returns : goal.returns
returns c =
    let bs = c.args.bytes.now in
    c.judge_order.ensures
    ∙ ap (λ at. first (ending bs at)) c.order_place.ensures
    ∙ past_hop c.args.rules bs c.in_ok-judge_slot.ensures c.in_ok-judge_slot-2.ensures c.in_ok-judge_hop.ensures
