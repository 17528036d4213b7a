-- What every order begins with, and a publish's share after it, are the field. Assumes nothing.
use native.Mathlib.Omega.{arith}
use Rattle.orders.specs.Orders.{order_bytes}
use Rattle.fields.proofs.Placing.{length_field}
use Rattle.message.proofs.WriteLaws.{size_small, no_share, with_share}
use Rattle.message.proofs.writing.put_order.Goals as goal

pub put_start-requires : goal.put_start-requires
put_start-requires c =
    let o = c.args.order in
    omega (arith, c.requires, length_field 4 (order_bytes o), (size_small o).0)

pub returns-in-Publish : goal.returns-in-Publish
returns-in-Publish c =
    let a = c.args in
    with_share a.order a.out.now _ a.at c.requires c.put_start.ensures c.in-Publish.image c.in-Publish.share _ c.in-Publish.is c.put.ensures.1

pub returns-in_default : goal.returns-in_default
returns-in_default c =
    let a = c.args in
    no_share a.order a.out.now _ a.at c.requires c.put_start.ensures c.in_default.not-Publish
