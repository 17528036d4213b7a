-- A run has its lines, a refusal its one. Assumes nothing.
use Rattle.engine.specs.Calls.{no_outcome}
use Rattle.report.proofs.Writing.{wrote_as}
use Rattle.report.proofs.Reports.{text_run, text_refused}
use Rattle.report.proofs.lines.text.Goals as goal

pub returns-in-Ok : goal.returns-in-Ok
returns-in-Ok c = rw c.in-Ok.is (wrote_as (text_run c.in-Ok.outcome) c.whole.ensures)

pub returns-in-Err : goal.returns-in-Err
returns-in-Err c = rw c.in-Err.is (wrote_as (text_refused c.in-Err.refusal no_outcome) c.refused.ensures)
