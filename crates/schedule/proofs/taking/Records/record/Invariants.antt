-- After so many turns `at` is where the record of that number begins. Assumes nothing.
use mathlib.Core.Path.{◌≡◌}
use Rattle.schedule.specs.Shape.{place}
use Rattle.schedule.proofs.taking.Records.record.Given as goal

abbrev pub invariant-loop : goal.invariant-loop
invariant-loop l = l.at ≡ place l.bytes l.counter
