-- The chain of tests is the list of tests. Assumes nothing.
use native.Mathlib.Nat.{add-zero}
use Rattle.lists.proofs.TestLaws.{all_chain}
use Rattle.schedule.proofs.shape.Tally.fate_fits.Goals as goal

pub returns : goal.returns
returns c = simp (c.byte-start.ensures, c.byte-link.ensures, c.byte-direction.ensures, c.size.ensures, add-zero) (all_chain _ _)
