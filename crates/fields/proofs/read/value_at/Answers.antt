-- After i turns x is the number in the first i bytes, of which there are 8 at most; past the end all of them are 0. Assumes nothing.
use mathlib.Core.Path.{sym}
use native.Mathlib.Omega.{arith}
use Rattle.lists.proofs.ByteLaws.{val_none, val_more, digit_lt, digit_fits}
use Rattle.fields.proofs.Reading.{val_past}
use Rattle.fields.proofs.read.value_at.Goals as goal

pub returns-then-bytes-at : goal.returns-then-bytes-at
returns-then-bytes-at c = sym (val_past _ _ _ c.if-bytes-at.true)

pub loop-i-init : goal.loop-i-init
loop-i-init c = (sym (val_none _ _), omega arith)

pub loop-i-preserved : goal.loop-i-preserved
loop-i-preserved c =
    let l = c.loop-i in
    (cc (l.invariant.0, c.byte_at.ensures, val_more _ _ l.i), digit_lt l.x c.byte_at.result l.i l.invariant.1 (omega arith))

pub overflow_mul-x : goal.overflow_mul-x
overflow_mul-x c =
    let l = c.loop-i in
    record { fits = omega (arith, digit_fits l.x 0 l.i (omega arith) l.invariant.1 (omega arith)) }

pub overflow_add-x : goal.overflow_add-x
overflow_add-x c =
    let l = c.loop-i in
    record { fits = digit_fits l.x c.byte_at.result l.i (omega arith) l.invariant.1 (omega arith) }
