-- Each turn goes on. Assumes nothing.
use Rattle.std.proofs.Common.{length}
use Rattle.schedule_cases.proofs.each.Given as goal

abbrev pub decreases-loop-length : goal.decreases-loop-length
decreases-loop-length g l = length l.rest
