-- Part by part, each from its record. Assumes nothing.
use Rattle.network.proofs.Answers.{fine}
use Rattle.network.proofs.Ranges.{ranges}
use Rattle.schedule.specs.Schedule.{plan_of, schedule_of}
use Rattle.schedule.proofs.taking.Records.schedule.Goals as goal

pub offsets_of-offsets-requires : goal.offsets_of-offsets-requires
offsets_of-offsets-requires c = let p = c.args.plan in (ranges p (fine p c.requires.clear).ranges).hosts_high

pub returns : goal.returns
unfolding schedule_of plan_of
returns c =
    let p = c.requires in
    let t = c.args.self.tally in
    let f = c.record.ensures in
    let o = c.record-2.ensures in
    let e = c.record-3.ensures in
    simp (c.tick-end.ensures, c.offsets_of-offsets.ensures, c.faults_of-faults.ensures, c.delays.ensures, c.starts.ensures, f.bytes, f.place, o.bytes, o.place, e.bytes, e.place, p.bounds_are, p.plan_is, t.links_are, t.starts_are, t.count_is)
