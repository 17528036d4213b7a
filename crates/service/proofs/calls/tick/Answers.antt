-- Where nothing is due the last reading alone is stored; else those that are due are written, and the others stay. Assumes nothing.
use borrow.Author.Rules.{rules}
use native.Mathlib.Omega.{arith}
use mathlib.Core.Path.{refl, ◌∙◌}
use lib.ListN.{length}
use Rattle.service.proofs.Flats.{sized_in}
use Rattle.service.proofs.Ticks.{few, room_for, idle_now, idle_out, delivered_now, delivered_out}
use Rattle.service.proofs.calls.tick.Goals as goal

pub returns-then-count-eq0 : goal.returns-then-count-eq0
returns-then-count-eq0 c =
    let f = c.args.memory.now in
    let out = c.args.out.now in
    let said = c.in_ok-count.ensures in
    let none = c.if-count-eq0.true in
    (idle_now f c.args.u (length out) _ said (search rules) none, (said, idle_out f c.args.u (length out) _ said (search rules) out refl none))

pub shared_ref_as_front-write_due : goal.shared_ref_as_front-write_due
shared_ref_as_front-write_due c = let low = few c.args.memory.now c.args.u (length c.args.out.now) _ c.in_ok-count.ensures (search rules) in omega arith

pub write_due-requires : goal.write_due-requires
write_due-requires c = room_for c.args.memory.now c.args.u (length c.args.out.now) _ c.in_ok-count.ensures (search rules)

pub drop_due-requires : goal.drop_due-requires
drop_due-requires c = few c.args.memory.now c.args.u (length c.args.out.now) _ c.in_ok-count.ensures (search rules)

pub returns : goal.returns
returns c =
    let f = c.args.memory.now in
    let out = c.args.out.now in
    let said = c.in_ok-count.ensures in
    (c.drop_due.ensures ∙ delivered_now f c.args.u (length out) _ said (search rules) (sized_in f (search rules) (search rules)), (said, c.write_due.ensures ∙ delivered_out f c.args.u (length out) _ said (search rules) out refl))
