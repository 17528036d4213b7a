-- What is written so far is a paste of as many bytes. Assumes nothing.
use Rattle.lists.proofs.Walks.{Pasted}
use Rattle.service.proofs.changes.put_entry.Given as goal

abbrev pub invariant-loop-j : goal.invariant-loop-j
invariant-loop-j l = Pasted l.initial.out l.at l.byte-items l.out l.j
