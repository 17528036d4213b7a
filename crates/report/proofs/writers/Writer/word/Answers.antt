-- As many bytes of the word are written as the loop has passed. Assumes nothing.
use Rattle.report.proofs.Writing.{wrote_then, wrote_as, take_more}
use Rattle.report.proofs.writers.Writer.word.Goals as goal

pub loop-byte-preserved : goal.loop-byte-preserved
loop-byte-preserved c = wrote_as (take_more _ _ c.loop-byte-test.true) (wrote_then c.loop-byte.invariant c.put.ensures)
