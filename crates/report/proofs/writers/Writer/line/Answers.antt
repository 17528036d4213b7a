-- The word and the number, and after them the end of the line. Assumes nothing.
use Rattle.report.proofs.Writing.{wrote_then}
use Rattle.report.proofs.writers.Writer.line.Goals as goal

pub returns : goal.returns
returns c = wrote_then c.item.ensures c.put.ensures
