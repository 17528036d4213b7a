-- The twelve cells of the table: what the code for an order's kind and an image's state makes of the image is what 01 states. Assumes nothing.
use mathlib.Core.Path.{◌≡◌, refl}
use Prim.Native.Nat.{◌≤◌}
use native.Mathlib.Omega.{arith}
use Rattle.orders.specs.declared.Order.{Order}
use Rattle.orders.specs.declared.Order.TheVariants.{Publish, Halt, Resume, Withdraw}
use Rattle.orders.specs.Orders.{kind_of, share_of}
use Rattle.board.specs.declared.Stand.{Stand}
use Rattle.board.specs.declared.Stand.TheVariants.{Absent, Offered, Halted}
use Rattle.board.specs.Board.{outcome}
use Rattle.board.specs.Inside.{state_of, effect_of, effected}

pub cells : (o : Order) (s : Stand) → effected (effect_of (kind_of o) (state_of s)) (share_of o) s ≡ outcome o s
cells (Publish image share) Absent = refl
cells (Publish image share) (Offered old) = refl
cells (Publish image share) (Halted old) = refl
cells (Halt image) Absent = refl
cells (Halt image) (Offered old) = refl
cells (Halt image) (Halted old) = refl
cells (Resume image) Absent = refl
cells (Resume image) (Offered old) = refl
cells (Resume image) (Halted old) = refl
cells (Withdraw image) Absent = refl
cells (Withdraw image) (Offered old) = refl
cells (Withdraw image) (Halted old) = refl

pub states : (s : Stand) → state_of s ≤ 2
states Absent = omega arith
states (Offered share) = omega arith
states (Halted share) = omega arith

pub kinds : (o : Order) → (1 ≤ kind_of o) × (kind_of o ≤ 4)
kinds (Publish image share) = omega arith
kinds (Halt image) = omega arith
kinds (Resume image) = omega arith
kinds (Withdraw image) = omega arith
