-- The first i places hold the bytes of the value. Assumes nothing.
use mathlib.Core.Path.{◌≡◌}
use Prim.Native.Nat.{◌+◌}
use Rattle.schedule.specs.Schedule.{offsets_at}
use Rattle.schedule.proofs.taking.offsets_of.Given as goal

abbrev pub invariant-loop-i : goal.invariant-loop-i
invariant-loop-i l = l.offsets ≡ offsets_at l.here.bytes.now (l.here.at + 3) l.i
