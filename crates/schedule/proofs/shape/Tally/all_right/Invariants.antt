-- The first k records are right, and `at` is where record k begins. Assumes nothing.
use mathlib.Core.Path.{◌≡◌}
use mathlib.Core.Bool.{true}
use Prim.Native.Nat.{ℕ, ◌<◌}
use Rattle.schedule.specs.Shape.{place, right}
use Rattle.schedule.proofs.shape.Tally.all_right.Given as goal

abbrev pub invariant-loop-k : goal.invariant-loop-k
invariant-loop-k l = (l.at ≡ place l.bytes l.k) × ((j : ℕ) → j < l.k → right l.bytes j ≡ true)
