-- The entries so far stand one behind the other, and the rest of the list is as it was. Assumes nothing.
use mathlib.Core.Path.{◌≡◌}
use mathlib.Core.List.{◌++◌, map}
use Prim.Native.Nat.{◌*◌}
use lib.ListN.{take, drop}
use Rattle.host.specs.Entries.{entries_of}
use Rattle.service.specs.Memory.{held_from}
use Rattle.service.proofs.changes.write_due.Given as goal

abbrev pub invariant-loop-i : goal.invariant-loop-i
invariant-loop-i l = l.out ≡ entries_of (map held_from (take l.i l.due)) ++ drop (16 * l.i) l.initial.out
