-- Its parts, one after the other. Assumes nothing.
use Rattle.report.specs.Text.{item, delivery_line}
use Rattle.report.proofs.Writing.{wrote_then}
use Rattle.report.proofs.lines.delivery.Goals as goal

pub returns : goal.returns
unfolding item delivery_line
returns c = wrote_then (wrote_then (wrote_then c.item.ensures c.item-2.ensures) c.held.ensures) c.put.ensures
