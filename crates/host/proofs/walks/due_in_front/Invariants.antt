-- Those looked at are due; with those in front of what is left they are all. Assumes nothing.
use Rattle.std.proofs.Common.{◌≡◌, ◌+◌, drop, length, map}
use Rattle.lists.specs.Lists.{lead}
use Rattle.host.specs.Tick.{due}
use Rattle.host.proofs.walks.due_in_front.Given as goal

abbrev pub invariant-loop-i : goal.invariant-loop-i
invariant-loop-i g l =
    let held = g.E.Stored.as_held in
    l.i + length (lead (due l.bound l.u.0) (map held (drop l.i l.entries))) ≡ length (lead (due l.bound l.u.0) (map held l.entries))
