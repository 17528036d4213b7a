-- Each part of the new state is its own function of the old. Assumes nothing.
use Rattle.host.proofs.Facts.{start_is}
use Rattle.host.proofs.starting.start_held.Goals as goal

pub hold-requires : goal.hold-requires
hold-requires c =
    let a = c.args in
    let k = start_is a.host.now a.u.0 a.order c.requires in
    (k.room, k.sound.rise, k.sound.history_unused)
