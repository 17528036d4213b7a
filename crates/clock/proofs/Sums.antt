-- The definitions under their tests. Assumes nothing.
use mathlib.Core.Path.{◌≡◌, refl, sym, ◌∙◌}
use mathlib.Core.Bool.{Bool, true, false, cond}
use Prim.Native.Nat.{ℕ, ◌+◌, ◌-◌, ◌≤◌, ◌<◌}
use native.Mathlib.Omega.{arith}
use borrow.Author.Tests.{leb-true, leb-false, le-leb, lt-leb}
use lib.Dec.{leb}
use Rattle.std.specs.Prelude.{Some, None}
use Rattle.std.specs.Bool.{then_some}
use Rattle.clock.specs.Clock.{largest_reading, reading, shown, showing}
use Rattle.clock.specs.declared.Reading.{Reading}
use Rattle.clock.specs.declared.Tick.{Tick}

-- a test of a sum by a difference
pub sub_leb : (a k b : ℕ) → k ≤ b → leb a (b - k) ≡ leb (a + k) b
sub_leb a k b h = go (leb a (b - k)) refl
  where
    go : (t : Bool) → leb a (b - k) ≡ t → leb a (b - k) ≡ leb (a + k) b
    go true e = let l : a ≤ b - k = leb-true a (b - k) e in e ∙ sym (le-leb (a + k) b (omega arith))
    go false e = let l : b - k < a = leb-false a (b - k) e in e ∙ sym (lt-leb (a + k) b (omega arith))

if_some : {T : Type 0} (b : Bool) (x : T) → then_some b x ≡ cond b (Some x) None
if_some true x = refl
if_some false x = refl

pub shown_at : (t : Tick) (offset : ℕ) → then_some (leb (reading t offset).0 largest_reading) (reading t offset) ≡ shown t offset
unfolding shown
shown_at t offset = if_some _ _

pub shown_past : (t : Tick) (offset : ℕ) → largest_reading < (reading t offset).0 → None ≡ shown t offset
unfolding shown
shown_past t offset h = simp (lt-leb _ _ h)

pub showing_at : (u : Reading) (offset : ℕ) → offset ≤ u.0 → then_some (leb u.0 largest_reading) (record { 0 = u.0 - offset }) ≡ showing u offset
unfolding showing
showing_at u offset l = simp (le-leb _ _ l) (if_some _ _)

pub showing_below : (u : Reading) (offset : ℕ) → u.0 < offset → None ≡ showing u offset
unfolding showing
showing_below u offset h = simp (lt-leb _ _ h)
