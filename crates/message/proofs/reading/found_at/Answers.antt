-- Each part is taken from the place where the definition has it. Assumes nothing.
use Prim.Native.Nat.{◌+◌}
use native.Mathlib.Omega.{arith}
use Rattle.lists.proofs.ByteLaws.{val_lt}
use Rattle.message.proofs.ReadLaws.{found_is}
use Rattle.message.proofs.reading.found_at.Goals as goal

pub overflow_cast-image : goal.overflow_cast-image
overflow_cast-image c =
    let h = val_lt c.args.bytes.now (λ i. (c.type_inv.bytes i).fits) (c.order_place-at.result + 3 + 1) 4 in
    record { fits = omega (arith, c.value_at-image.ensures, h) }

pub returns : goal.returns
returns c =
    found_is c.args.rules c.args.bytes.now _ _ _ _ _ _ _ _ _ c.order_place-at.ensures c.value_at.ensures c.byte_at.ensures
    c.hop_at.ensures c.byte_at-2.ensures c.value_at-image.ensures c.byte_at-share.ensures c.order_of.ensures c.value_at-2.ensures
