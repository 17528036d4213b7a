-- All products and sums of bytes fit. Assumes nothing.
use Rattle.network.specs.Network.{bound}
use Rattle.network.proofs.rules.bound.Goals as goal

pub returns : goal.returns
unfolding bound
returns c = simp c.host_cost.ensures
