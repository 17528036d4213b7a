-- By recursion with k falling. Assumes nothing.
use Rattle.network.proofs.reach.+reach.Given as goal

abbrev pub decreases-reach : goal.decreases-reach
decreases-reach l = l.k
