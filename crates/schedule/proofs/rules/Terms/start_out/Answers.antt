-- The chain of tests is the list of tests. Assumes nothing.
use Rattle.lists.proofs.TestLaws.{any_chain}
use Rattle.schedule.proofs.Ranges.{earlier_lem}
use Rattle.schedule.proofs.rules.Terms.start_out.Goals as goal

pub returns : goal.returns
returns c = simp (c.lt.ensures, c.lt-2.ensures, c.tick-tick.ensures, c.tick-last.ensures, c.tag.ensures, c.args.step.same, earlier_lem) (any_chain _ _)
