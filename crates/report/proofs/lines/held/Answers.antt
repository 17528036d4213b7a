-- Its parts, one after the other. Assumes nothing.
use Rattle.report.specs.Text.{item, held_text}
use Rattle.report.proofs.Writing.{wrote_then}
use Rattle.report.proofs.lines.held.Goals as goal

pub returns : goal.returns
unfolding item held_text
returns c = wrote_then (wrote_then c.item.ensures c.item-2.ensures) c.ordered.ensures
