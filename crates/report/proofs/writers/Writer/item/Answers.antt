-- The word, and after it the number. Assumes nothing.
use Rattle.report.proofs.Writing.{wrote_then}
use Rattle.report.proofs.writers.Writer.item.Goals as goal

pub returns : goal.returns
returns c = wrote_then c.word.ensures c.number.ensures
