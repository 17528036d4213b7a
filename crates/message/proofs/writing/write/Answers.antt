-- Refusals in their order; with room the message is put from the first byte on. Assumes nothing.
use mathlib.Core.Path.{◌≡◌}
use mathlib.Core.Bool.{true}
use Prim.Native.Nat.{◌+◌}
use native.Mathlib.Omega.{arith}
use lib.ListN.{length}
use Rattle.message.specs.Calls.{in_range}
use Rattle.message.specs.Layout.{layout}
use Rattle.message.proofs.WriteLaws.{place_small, size_small, length_layout, refused_22, accepted}
use Rattle.message.proofs.writing.write.Goals as goal

pub overflow_add-n-2 : goal.overflow_add-n-2
overflow_add-n-2 c = omega (arith, c.order_place.ensures, place_small c.args.rules, c.size.ensures, (size_small c.args.message.order).1)

pub returns-then-out-n : goal.returns-then-out-n
returns-then-out-n c =
    let e : in_range c.args.rules c.args.message ≡ true = cc in
    let h = length_layout c.args.rules c.args.message in
    refused_22 c.args.rules c.args.message c.args.out.now e (omega (arith, c.order_place.ensures, c.size.ensures, h))

pub put_message-requires : goal.put_message-requires
put_message-requires c = omega (arith, c.order_place.ensures, c.size.ensures, length_layout c.args.rules c.args.message)

pub returns : goal.returns
returns c =
    let e : in_range c.args.rules c.args.message ≡ true = cc in
    let whole : c.order_place.result + 3 + c.size.result ≡ length (layout c.args.rules c.args.message) =
    omega (arith, c.order_place.ensures, c.size.ensures, length_layout c.args.rules c.args.message) in
    accepted c.args.rules c.args.message c.args.out.now e _ _ whole c.if-out-n.false c.put_message.ensures
