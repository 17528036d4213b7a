-- As many bytes of the word are written as the loop has passed. Assumes nothing.
use lib.ListN.{take}
use Rattle.report.specs.Inside.{Wrote}
use Rattle.report.proofs.writers.Writer.word.Given as goal

abbrev pub invariant-loop-byte : goal.invariant-loop-byte
invariant-loop-byte l = Wrote l.initial.self (take l.byte-index l.name) l.self
