-- The first begins where the record before it ends. Assumes nothing.
use native.Mathlib.Omega.{arith}
use Prim.Native.Nat.{◌-◌}
use Rattle.schedule.proofs.Walks.{place_past}
use Rattle.schedule.proofs.taking.Records.walk.Goals as goal

pub invariant_of-result : goal.invariant_of-result
invariant_of-result c = let t = c.args.self.tally in let k = c.args.first in record { short = t.short; there = omega (arith, t.count_is, c.requires.there); few = omega arith; place_is = place_past t.bytes.now (k - 1) _ _ _ _ (omega (arith, c.requires.some)) c.record.ensures.bytes c.record.ensures.place c.end.ensures }
