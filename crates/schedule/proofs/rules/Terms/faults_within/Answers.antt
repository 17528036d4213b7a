-- A shift of 1 is a power of 2; the chain of tests is the list of tests. Assumes nothing.
use native.Mathlib.Omega.{arith}
use Rattle.lists.proofs.TestLaws.{all_chain}
use Rattle.network.proofs.Bits.{top_is}
use Rattle.schedule.specs.Rules.{faults_within}
use Rattle.schedule.proofs.rules.Terms.faults_within.Goals as goal

pub returns : goal.returns
unfolding faults_within
returns c = simp (top_is c.args.self.plan.hosts (omega arith), top_is c.args.self.plan.link_count (omega arith)) (all_chain _ _)
