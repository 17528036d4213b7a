-- What is written so far is a paste of as many bytes. Assumes nothing.
use native.Mathlib.Omega.{arith}
use Rattle.lists.proofs.Walks.{paste_start, paste_turn, paste_end}
use Rattle.service.proofs.changes.put_entry.Goals as goal

pub loop-j-init : goal.loop-j-init
loop-j-init c = paste_start

pub loop-j-preserved : goal.loop-j-preserved
loop-j-preserved c = paste_turn 0 c.loop-j.invariant (omega arith) (omega arith)

pub returns : goal.returns
returns c = paste_end 16 c.loop-j.invariant (omega arith) c.entry.ensures
