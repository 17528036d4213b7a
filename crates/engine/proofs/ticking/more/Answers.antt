-- The first i are behind what was there. Assumes nothing.
use native.Mathlib.Omega.{arith}
use Rattle.engine.proofs.Logs.{more_turn}
use Rattle.engine.proofs.ticking.more.Goals as goal

pub loop-i-preserved : goal.loop-i-preserved
loop-i-preserved c = let a = c.args in
    let s = c.loop-i in
    let p = c.requires in
    more_turn a.u a.log p.0 a.history s.i s.entries (omega arith) (omega arith) s.invariant
