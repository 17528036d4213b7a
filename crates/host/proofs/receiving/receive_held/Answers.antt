-- Each part of the new state is its own function of the old. Assumes nothing.
use Rattle.host.proofs.Facts.{receive_is}
use Rattle.host.proofs.receiving.receive_held.Goals as goal

pub hold-requires : goal.hold-requires
hold-requires c =
    let a = c.args in
    let k = receive_is a.host.now a.u.0 a.arrival a.hop a.copy c.requires in
    (k.room, k.sound.rise, k.sound.history_unused)
