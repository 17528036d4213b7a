-- What callers use of clocks. Assumes nothing.
use mathlib.Core.Path.{◌≡◌, ap}
use Prim.Native.Nat.{ℕ, ◌+◌, ◌-◌, ◌≤◌}
use native.Mathlib.Omega.{arith}
use borrow.Author.Tests.{le-leb}
use Rattle.std.specs.Prelude.{Some}
use Rattle.clock.specs.Clock.{largest_reading, reading, shown, showing}
use Rattle.clock.specs.declared.Reading.{Reading}
use Rattle.clock.specs.declared.Tick.{Tick}

-- ---- a clock's reading leads back to its tick, and no other tick has it

pub shown_showing : (t : Tick) (offset : ℕ) → (reading t offset).0 ≤ largest_reading → showing (reading t offset) offset ≡ Some t
unfolding showing
shown_showing t offset h =
    let back : (t.0 + offset) - offset ≡ t.0 = omega arith in
    let ahead : offset ≤ t.0 + offset = omega arith in
    simp (le-leb _ _ ahead, le-leb _ _ h) (ap (λ (n : ℕ). Some (record { 0 = n })) back)

pub showing_shown : (u : Reading) (offset : ℕ) → offset ≤ u.0 → u.0 ≤ largest_reading → shown (record { 0 = u.0 - offset }) offset ≡ Some u
unfolding shown
showing_shown u offset l h =
    let back : (u.0 - offset) + offset ≡ u.0 = omega arith in
    let low : (u.0 - offset) + offset ≤ largest_reading = omega arith in
    simp (le-leb _ _ low) (ap (λ (n : ℕ). Some (record { 0 = n })) back)

-- ---- clocks run at one rate: what comes later reads more
