-- By recursion with i falling. Assumes nothing.
use Rattle.network.proofs.worst.+hosts_out.Given as goal

abbrev pub decreases-hosts_out : goal.decreases-hosts_out
decreases-hosts_out l = l.i
