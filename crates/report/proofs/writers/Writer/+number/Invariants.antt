-- By recursion with the number falling. Assumes nothing.
use Rattle.report.proofs.writers.Writer.+number.Given as goal

abbrev pub decreases-number : goal.decreases-number
decreases-number l = l.x
