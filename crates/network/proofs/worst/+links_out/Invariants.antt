-- By recursion with i falling. Assumes nothing.
use Rattle.network.proofs.worst.+links_out.Given as goal

abbrev pub decreases-links_out : goal.decreases-links_out
decreases-links_out l = l.i
