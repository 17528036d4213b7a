-- The chain of tests is the list of tests, and the bytes are not too long. Assumes nothing.
use mathlib.Core.Bool.{true}
use borrow.Author.Tests.{le-leb}
use Rattle.lists.proofs.TestLaws.{all_chain}
use Rattle.schedule.specs.Shape.{is_schedule}
use Rattle.schedule.proofs.shape.Tally.is_schedule.Goals as goal

pub returns : goal.returns
unfolding is_schedule
returns c = let t = c.args.self in simp (le-leb _ _ t.short, c.all_right.ensures, t.end_is, t.count_is, t.links_are, t.starts_are) (all_chain true _)
