-- Byte by byte, and the links. Assumes nothing.
use Rattle.schedule.specs.Schedule.{plan_of}
use Rattle.schedule.proofs.Walks.{place_start}
use Rattle.schedule.proofs.taking.Records.plan.Goals as goal

pub returns : goal.returns
unfolding plan_of
returns c =
    let t = c.args.self.tally in
    let p = c.record-plan.ensures in
    simp (c.byte.ensures, c.byte-2.ensures, c.byte-3.ensures, c.byte-4.ensures, c.byte-5.ensures, c.links.ensures, p.bytes, p.place, place_start t.bytes.now, t.links_are)
