-- The first places hold what the walk gave. Assumes nothing.
use mathlib.Core.Path.{◌≡◌}
use Prim.Native.Nat.{◌+◌}
use Rattle.schedule.specs.Schedule.{starts_of}
use Rattle.schedule.proofs.taking.Records.starts.Given as goal

abbrev pub invariant-loop-i : goal.invariant-loop-i
invariant-loop-i l =
    (goal.iterator-loop-i).can_next l.i-iterator
    × (goal.iterator-loop-i).is_finite l.i-iterator
    × (l.i-iterator.bytes.now ≡ l.self.tally.bytes.now)
    × (l.i-iterator.first ≡ l.self.tally.links + 4)
    × (l.i-iterator.count ≡ l.self.tally.starts)
    × (l.starts ≡ starts_of l.self.tally.bytes.now (l.self.tally.links + 4) l.i-iterator.i)
