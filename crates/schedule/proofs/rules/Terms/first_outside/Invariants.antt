-- No record before k is outside the rules; `at` and `before` are where record k and the one before it begin. Assumes nothing.
use mathlib.Core.Path.{◌≡◌}
use mathlib.Core.Bool.{false}
use Prim.Native.Nat.{ℕ, ◌<◌, ◌-◌}
use Rattle.schedule.specs.Shape.{place}
use Rattle.schedule.specs.Rules.{outside}
use Rattle.schedule.proofs.rules.Terms.first_outside.Given as goal

abbrev pub invariant-loop-k : goal.invariant-loop-k
invariant-loop-k l = (l.at ≡ place l.bytes l.k) × ((l.before ≡ place l.bytes (l.k - 1)) × ((j : ℕ) → j < l.k → outside l.self.plan l.self.faults l.self.end l.bytes j ≡ false))
