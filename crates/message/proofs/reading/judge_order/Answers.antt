-- The order's own faults come first, and then what follows it. Assumes nothing.
use mathlib.Core.Path.{sym, ap, ◌∙◌}
use native.Mathlib.Omega.{arith}
use borrow.Author.Rules.{rules}
use Rattle.message.specs.Inside.{judged}
use Rattle.message.proofs.ReadLaws.{field_judged, handed_on, left_over, none_left}
use Rattle.message.proofs.reading.judge_order.Goals as goal

pub returns-in_err-map_err : goal.returns-in_err-map_err
returns-in_err-map_err c =
    let order = field_judged c.args.place _ c.order_fault.result c.map_err.result c.order_fault.ensures (search rules) in
    handed_on _ _ _ c.from_residual.result (ap judged (sym c.in_err-map_err.was) ∙ order) c.from_residual.ensures.1

pub returns-then-end-bytes : goal.returns-then-end-bytes
returns-then-end-bytes c =
    let order = field_judged c.args.place _ c.order_fault.result c.map_err.result c.order_fault.ensures (search rules) in
    left_over c.args.bytes.now c.args.place _ (omega (arith, c.value_at.ensures)) (ap judged (sym c.in_ok-map_err.was) ∙ order) c.if-end-bytes.true

pub returns : goal.returns
returns c =
    let order = field_judged c.args.place _ c.order_fault.result c.map_err.result c.order_fault.ensures (search rules) in
    none_left c.args.bytes.now c.args.place _ (omega (arith, c.value_at.ensures)) (ap judged (sym c.in_ok-map_err.was) ∙ order) c.if-end-bytes.false
