-- After so many turns `at` is where the record of that number begins. Assumes nothing.
use native.Mathlib.Omega.{arith}
use mathlib.Core.Path.{refl, sym}
use Rattle.schedule.proofs.Walks.{place_start, place_past, place_low}
use Rattle.schedule.proofs.taking.Records.record.Goals as goal

pub loop-init : goal.loop-init
loop-init c = sym (place_start _)

pub invariant_of-end : goal.invariant_of-end
invariant_of-end c = let t = c.args.self.tally in let s = c.loop in record { low = place_low t.bytes.now s.counter s.at t.short (omega (arith, t.count_is, c.requires)) s.invariant }

pub loop-preserved : goal.loop-preserved
loop-preserved c = let s = c.loop in place_past c.args.self.tally.bytes.now s.counter _ s.at _ _ refl refl s.invariant c.end-at.ensures

pub invariant_of-result : goal.invariant_of-result
invariant_of-result c = let t = c.args.self.tally in let s = c.loop in record { low = place_low t.bytes.now s.counter s.at t.short (omega (arith, t.count_is, c.requires)) s.invariant }
