-- A record begins where the one before it ends. Assumes nothing.
use native.Mathlib.Omega.{arith}
use mathlib.Core.Path.{refl}
use Prim.Native.Nat.{◌+◌}
use Rattle.schedule.proofs.Walks.{place_past, place_low}
use Rattle.schedule.proofs.steps.WalkIterator.next.Goals as goal

pub invariant_of-here : goal.invariant_of-here
invariant_of-here c = let w = c.args.self.now in record { low = place_low w.bytes.now (w.first + w.i) w.at w.short (omega (arith, w.there, w.few, c.if-self.false)) w.place_is }

pub invariant_of-self : goal.invariant_of-self
invariant_of-self c = let w = c.args.self.now in record { short = w.short; there = w.there; few = omega (arith, w.few, c.if-self.false); place_is = place_past w.bytes.now (w.first + w.i) _ w.at _ _ (omega arith) refl w.place_is c.end.ensures }
