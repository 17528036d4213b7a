-- The chain of tests is the list of tests, each what `is_in` ensures. Assumes nothing.
use Rattle.lists.proofs.TestLaws.{all_chain}
use Rattle.network.specs.Network.{survives}
use Rattle.network.proofs.reach.link_survives.Goals as goal

pub returns : goal.returns
unfolding survives
returns c = simp (c.is_in.ensures, c.is_in-2.ensures, c.is_in-3.ensures, c.link_of-l.ensures) (all_chain _ _)
