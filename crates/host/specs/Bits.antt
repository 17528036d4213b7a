-- An order held under its name as one number, 0 just where the place is unused. Assumes nothing.
use mathlib.Core.Path.{◌≡◌, refl}
use Prim.Native.Nat.{ℕ}
use lib.Dec.{eqb}
use lib.Bits.{bit_or}
use Rattle.lists.proofs.Zeros.{or_zero}
use Rattle.orders.specs.declared.Order.{Order}
use Rattle.orders.specs.declared.Order.TheVariants.{Publish, Halt, Resume, Withdraw}
use Rattle.orders.specs.Orders.{same_order}
use Rattle.host.specs.declared.Held.{Held}
use Rattle.host.specs.State.{is_no_held}

abbrev pub order_bits : Order → ℕ
order_bits (Publish image share) = bit_or image share
order_bits (Halt image) = 1
order_bits (Resume image) = 1
order_bits (Withdraw image) = 1

abbrev pub held_bits : Held → ℕ
held_bits e = bit_or (bit_or e.stamp.0 e.source) (order_bits e.order)

-- ---- a host's own law of them

order_zero : (o : Order) → eqb (order_bits o) 0 ≡ same_order o (Publish 0 0)
order_zero (Publish image share) = or_zero image share
order_zero (Halt image) = refl
order_zero (Resume image) = refl
order_zero (Withdraw image) = refl

pub held_zero : (e : Held) → eqb (held_bits e) 0 ≡ is_no_held e
held_zero e = rw (or_zero (bit_or e.stamp.0 e.source) (order_bits e.order), or_zero e.stamp.0 e.source, order_zero e.order) refl
