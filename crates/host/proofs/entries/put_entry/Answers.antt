-- What is written so far is a paste of as many bytes. Assumes nothing.
use native.Mathlib.Omega.{arith}
use Rattle.lists.proofs.Walks.{paste_turn}
use Rattle.host.proofs.entries.put_entry.Goals as goal

pub loop-j-preserved : goal.loop-j-preserved
loop-j-preserved c = paste_turn 0 c.loop-j.invariant (omega arith) (omega arith)
