-- The text is written nowhere first, to learn its length, and then where it fits. Assumes nothing.
use borrow.Author.Rules.{rules}
use native.Mathlib.Omega.{arith}
use Rattle.schedule.specs.Calls.{answered}
use Rattle.engine.specs.Calls.{outcome_of}
use Rattle.engine.proofs.Runs.{outcome_in_places}
use Rattle.report.proofs.Room.{text_size}
use Rattle.report.proofs.Reports.{text_reported, too_short_lem, fits}
use Rattle.report.proofs.report.Goals as goal

pub returns-then-out-n : goal.returns-then-out-n
returns-then-out-n c =
    let ran = c.run-ran.ensures in
    let bs = c.args.bytes.now in
    let same = text_reported bs _ _ ran.numbers ran.outcome in
    let e = too_short_lem same (text_size (answered bs) (outcome_of bs) (outcome_in_places bs)) c.new-nowhere.ensures (omega arith) c.text.ensures c.args.out.now c.if-out-n.true in
    record { numbers = e.0; buffer = e.1 }

pub returns : goal.returns
returns c =
    let ran = c.run-ran.ensures in
    let bs = c.args.bytes.now in
    let same = text_reported bs _ _ ran.numbers ran.outcome in
    let e = fits same (text_size (answered bs) (outcome_of bs) (outcome_in_places bs)) c.new-nowhere.ensures (omega arith) c.text.ensures c.new.ensures (omega arith) c.text-2.ensures c.if-out-n.false in
    record { numbers = e.0; buffer = search rules }
