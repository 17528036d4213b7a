-- What is counted is what was met so far; at the end all is met. Assumes nothing.
use Prim.Native.Nat.{◌-◌}
use lib.ListN.{length}
use Rattle.schedule.proofs.Tallies.{Partly}
use Rattle.schedule.proofs.shape.Tally.of.Given as goal

abbrev pub invariant-loop-end : goal.invariant-loop-end
invariant-loop-end l = Partly l.bytes l.count l.links l.starts l.end

abbrev pub decreases-loop-end : goal.decreases-loop-end
decreases-loop-end l = length l.bytes - l.end
