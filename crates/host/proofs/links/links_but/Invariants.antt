-- The set of the links from i on, made from the last one down. Assumes nothing.
use Prim.Native.Nat.{ℕ, ◌+◌, ◌-◌, ◌≤◌}
use Rattle.host.specs.OwnLinks.{set_of, placed, ends_but}
use mathlib.Core.Path.{◌≡◌}
use Rattle.host.proofs.links.links_but.Given as goal

abbrev pub invariant-loop-i : goal.invariant-loop-i
invariant-loop-i l = (l.i ≤ placed l.plan) × (l.set ≡ set_of (placed l.plan - l.i) (λ (j : ℕ). ends_but l.plan l.own l.arrival (l.i + j)))
