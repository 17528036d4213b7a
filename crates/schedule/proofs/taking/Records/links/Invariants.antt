-- The first places hold what the walk gave. Assumes nothing.
use mathlib.Core.Path.{◌≡◌}
use Rattle.schedule.specs.Schedule.{links_of}
use Rattle.schedule.proofs.taking.Records.links.Given as goal

abbrev pub invariant-loop-i : goal.invariant-loop-i
invariant-loop-i l =
    (goal.iterator-loop-i).can_next l.i-iterator
    × (goal.iterator-loop-i).is_finite l.i-iterator
    × (l.i-iterator.bytes.now ≡ l.self.tally.bytes.now)
    × (l.i-iterator.first ≡ 1)
    × (l.i-iterator.count ≡ l.self.tally.links)
    × (l.links ≡ links_of l.self.tally.bytes.now l.i-iterator.i)
