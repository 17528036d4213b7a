-- Those behind the place are copied down by one, and z is written to the last. Assumes nothing.
use Rattle.lists.proofs.Moves.{closed, close_is}
use Rattle.lists.proofs.shifts.close_at.Goals as goal

pub returns-clause-value : goal.returns-clause-value
returns-clause-value g c = close_is c.args.z c.args.entries.now c.args.at c.if-at-entries.false {a = c.copy_within.new.self} c.copy_within.ensures.after

pub returns-clause-inside : goal.returns-clause-inside
returns-clause-inside g c = λ inside. closed c.args.z c.args.entries.now c.args.at inside {a = c.copy_within.new.self} c.copy_within.ensures.after
