-- Readings and ticks (01, "What the build holds" and "Numbers"). Assumes nothing.
use Rattle.std.specs.Prelude.{cond, ℕ, ◌+◌, ◌-◌, leb, Option, Some, None}
use Rattle.clock.specs.declared.Reading.{Reading}
use Rattle.clock.specs.declared.Tick.{Tick}

-- clock reading U: 0..1,099,511,627,775
abbrev pub largest_reading : ℕ
largest_reading = 1_099_511_627_775

-- stamp T: 0..1,099,511,623,679
abbrev pub largest_stamp : ℕ
largest_stamp = 1_099_511_623_679

-- "a reading is a real tick plus that host's offset"
abbrev pub reading : Tick → ℕ → Reading
reading t offset = record { 0 = t.0 + offset }

-- what a clock of that offset shows at a tick: that reading, where it is in range
unfoldable pub shown : Tick → ℕ → Option Reading
shown t offset = cond (leb (reading t offset).0 largest_reading) (Some (reading t offset)) None

-- and back: the tick at which it shows a reading, where the reading is in range and not below the offset
unfoldable pub showing : Reading → ℕ → Option Tick
showing u offset = cond (leb offset u.0) (cond (leb u.0 largest_reading) (Some (record { 0 = u.0 - offset })) None) None
