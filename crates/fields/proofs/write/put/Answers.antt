-- With room the bytes are stored, and without it none is. Assumes nothing.
use mathlib.Core.Path.{ap}
use mathlib.Core.Bool.{not}
use Rattle.lists.specs.Bytes.{be}
use Rattle.lists.proofs.ByteLaws.{length_be}
use Rattle.fields.proofs.Placing.{not_put, was_put}
use Rattle.fields.proofs.write.put.Goals as goal

pub returns-then-not-has_room : goal.returns-then-not-has_room
returns-then-not-has_room c =
    let a = c.args in
    not_put _ a.at _ (be a.width a.x) (length_be a.width a.x) _ c.has_room.ensures (ap not c.if-not-has_room.true)

pub returns : goal.returns
returns c =
    let a = c.args in
    was_put _ a.at _ (be a.width a.x) (length_be a.width a.x) _ c.has_room.ensures _ (ap not c.if-not-has_room.false) c.store.ensures
