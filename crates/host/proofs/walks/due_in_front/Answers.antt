-- Those looked at are due; with those in front of what is left they are all. Assumes nothing.
use Rattle.std.proofs.Common.{arith, sym, ◌∙◌}
use Rattle.lists.proofs.Loops.{item_next}
use Rattle.lists.proofs.Leads.{lead_turn, lead_stop, lead_end}
use Rattle.host.specs.Tick.{due}
use Rattle.host.proofs.walks.due_in_front.Goals as goal

pub returns-then-not-reached : goal.returns-then-not-reached
returns-then-not-reached g c =
    let next = item_next c.args.entries.now c.loop-i-test.true c.index-entries-i.is in
    let late = rw c.stamp.ensures at c.reached.ensures in
    lead_stop g.E.Stored.as_held (due c.args.bound c.args.u.0) c.args.entries.now _ c.loop-i.invariant _ next (sym late ∙ c.if-not-reached.true)

pub loop-i-preserved : goal.loop-i-preserved
loop-i-preserved g c =
    let next = item_next c.args.entries.now c.loop-i-test.true c.index-entries-i.is in
    let late = rw c.stamp.ensures at c.reached.ensures in
    lead_turn g.E.Stored.as_held (due c.args.bound c.args.u.0) c.args.entries.now _ c.loop-i.invariant _ next (sym late ∙ c.if-not-reached.false)

pub returns : goal.returns
returns g c =
    let all = lead_end g.E.Stored.as_held (due c.args.bound c.args.u.0) c.args.entries.now _ c.loop-i.invariant c.loop-i-test.false in
    let end = c.loop-i.auto.i-end in
    omega (arith, all, end, c.loop-i-test.false)
