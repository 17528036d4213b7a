-- The chain of tests is the list of tests. Assumes nothing.
use Rattle.lists.proofs.TestLaws.{all_chain}
use Rattle.schedule.proofs.shape.start_fits.Goals as goal

pub returns : goal.returns
returns c = simp (c.byte-kind.ensures, c.byte-share.ensures, c.byte.ensures, c.size.ensures, c.hosts.ensures, c.saturating_sub-order.ensures, c.wrong_size.ensures, c.wrong_value.ensures) (all_chain _ _)
