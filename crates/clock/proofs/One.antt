-- The promise of each public function admits one result only. Assumes nothing.
use mathlib.Core.Path.{◌≡◌}
use mathlib.Core.Bool.{Bool}
use Prim.Native.Nat.{ℕ, ◌+◌}
use lib.Dec.{leb}
use Rattle.std.specs.Prelude.{Option}
use Rattle.lists.proofs.One.{one_result}
use Rattle.clock.specs.Clock.{largest_reading, largest_stamp, shown, showing}
use Rattle.clock.specs.declared.Reading.{Reading}
use Rattle.clock.specs.declared.Tick.{Tick}

pub reading_at_one : (t : Tick) (offset : ℕ) (r s : Option Reading) → r ≡ shown t offset → s ≡ shown t offset → r ≡ s
reading_at_one t offset r s = one_result

pub tick_at_one : (u : Reading) (offset : ℕ) (r s : Option Tick) → r ≡ showing u offset → s ≡ showing u offset → r ≡ s
tick_at_one u offset r s = one_result

pub is_reading_one : (u : Reading) (r s : Bool) → r ≡ leb u.0 largest_reading → s ≡ leb u.0 largest_reading → r ≡ s
is_reading_one u r s = one_result

pub is_stamp_one : (u : Reading) (r s : Bool) → r ≡ leb u.0 largest_stamp → s ≡ leb u.0 largest_stamp → r ≡ s
is_stamp_one u r s = one_result

pub reached_one : (from : Reading) (span : ℕ) (at : Reading) (r s : Bool) → r ≡ leb (from.0 + span) at.0 → s ≡ leb (from.0 + span) at.0 → r ≡ s
reached_one from span at r s = one_result
