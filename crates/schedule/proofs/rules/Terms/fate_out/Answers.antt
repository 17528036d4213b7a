-- The chain of tests is the list of tests. Assumes nothing.
use Rattle.lists.proofs.TestLaws.{any_chain}
use Rattle.schedule.proofs.Walks.{past_head}
use Rattle.schedule.proofs.rules.Terms.fate_out.Goals as goal

pub returns : goal.returns
returns c = let at = c.args.step.here.at in simp (c.byte-link.ensures, c.byte-delay.ensures, c.copy-copy.ensures, c.copy-last.ensures, c.link_survives.ensures, c.tag.ensures, c.args.step.same, past_head at 1, past_head at 3) (any_chain _ _)
