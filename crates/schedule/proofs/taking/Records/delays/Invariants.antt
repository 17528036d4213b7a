-- The first places hold what the walk gave. Assumes nothing.
use mathlib.Core.Path.{◌≡◌}
use Prim.Native.Nat.{◌+◌, ◌-◌}
use Rattle.schedule.specs.Schedule.{delays_of}
use Rattle.schedule.proofs.taking.Records.delays.Given as goal

abbrev pub invariant-loop-here : goal.invariant-loop-here
invariant-loop-here l =
    (goal.iterator-loop-here).can_next l.here-iterator
    × (goal.iterator-loop-here).is_finite l.here-iterator
    × (l.here-iterator.bytes.now ≡ l.self.tally.bytes.now)
    × (l.here-iterator.first ≡ l.self.tally.links + l.self.tally.starts + 4)
    × (l.here-iterator.count ≡ l.self.tally.count - (l.self.tally.links + l.self.tally.starts + 4))
    × (l.delays ≡ delays_of l.self.tally.bytes.now (l.self.tally.links + l.self.tally.starts + 4) l.here-iterator.i)
