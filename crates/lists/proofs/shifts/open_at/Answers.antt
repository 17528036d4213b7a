-- Those from the place on are copied up by one, and x is written there. Assumes nothing.
use Rattle.lists.proofs.Moves.{open_is}
use Rattle.lists.proofs.shifts.open_at.Goals as goal

pub returns : goal.returns
returns g c = open_is c.args.x c.args.entries.now c.args.at c.if-at-entries.false {a = c.copy_within.new.self} c.copy_within.ensures.after
