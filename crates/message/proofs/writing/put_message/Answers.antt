-- The four fields, put one after the other, are the layout. Assumes nothing.
use native.Mathlib.Omega.{arith}
use Rattle.orders.specs.Orders.{order_bytes}
use Rattle.fields.proofs.Placing.{length_field}
use Rattle.message.proofs.WriteLaws.{length_layout, message_put}
use Rattle.message.proofs.writing.put_message.Goals as goal

pub put_order-requires : goal.put_order-requires
put_order-requires c =
    let h = length_layout c.args.rules c.args.message in
    let f = length_field 4 (order_bytes c.args.message.order) in
    omega (arith, h, f, c.order_place.ensures, c.requires, c.put_slot.auto.out, c.put_slot-2.auto.out, c.put_hop.auto.out)

pub returns : goal.returns
returns c =
    message_put c.args.rules c.args.message c.args.out.now _ _ _ _ _ c.requires c.order_place.ensures c.put_slot.ensures.1
    c.put_slot-2.ensures.1 c.put_hop.ensures c.put_order.ensures
