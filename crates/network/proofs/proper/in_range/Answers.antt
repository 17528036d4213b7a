-- The chain of tests is the list of tests. Assumes nothing.
use Rattle.lists.proofs.TestLaws.{all_chain}
use Rattle.network.specs.Network.{in_range}
use Rattle.network.proofs.proper.in_range.Goals as goal

pub returns : goal.returns
unfolding in_range
returns c = all_chain _ _
