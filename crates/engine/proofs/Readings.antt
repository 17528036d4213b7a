-- No clock passes the largest reading within a run. Assumes nothing.
use mathlib.Core.Path.{◌≡◌}
use Prim.Native.Nat.{ℕ, ◌+◌, ◌≤◌}
use borrow.Author.Tests.{le-leb}
use Rattle.std.specs.Prelude.{Some}
use Rattle.clock.specs.Clock.{largest_reading, reading, shown}
use Rattle.clock.specs.declared.Tick.{Tick}

pub shows : (t : Tick) (offset : ℕ) → t.0 + offset ≤ largest_reading → shown t offset ≡ Some (reading t offset)
unfolding shown
shows t offset h = simp (le-leb _ _ h)
