-- What is still to be stored, put upon what is there, is the whole. Assumes nothing.
use mathlib.Core.Path.{◌≡◌}
use lib.Seq.{sets}
use Rattle.lists.specs.Bytes.{be}
use Rattle.fields.proofs.write.store.Given as goal

abbrev pub invariant-loop-i : goal.invariant-loop-i
invariant-loop-i l = sets l.out l.at (be l.i l.left) ≡ sets l.initial.out l.at (be l.width l.x)
