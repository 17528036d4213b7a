-- The first i places hold the bytes of the value. Assumes nothing.
use native.Mathlib.Omega.{arith}
use Prim.Native.Nat.{◌+◌}
use lib.ListN.{get_or}
use Rattle.lists.proofs.Listing.{fill_start, fill_next}
use Rattle.schedule.proofs.taking.offsets_of.Goals as goal

pub loop-i-init : goal.loop-i-init
loop-i-init c = fill_start 8 0 (λ i. get_or c.args.here.bytes.now (c.args.here.at + 3 + i) 0)

pub loop-i-preserved : goal.loop-i-preserved
loop-i-preserved c = let a = c.args.here in let s = c.loop-i in rw (s.invariant, c.byte.ensures) (fill_next 8 0 (λ i. get_or a.bytes.now (a.at + 3 + i) 0) s.i (omega arith))
