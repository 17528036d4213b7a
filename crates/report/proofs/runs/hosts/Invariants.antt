-- As many hosts' lines are written as the loop has passed. Assumes nothing.
use Rattle.report.specs.Text.{hosts_text}
use Rattle.report.specs.Inside.{Wrote}
use Rattle.report.proofs.runs.hosts.Given as goal

abbrev pub invariant-loop-h : goal.invariant-loop-h
invariant-loop-h l = Wrote l.initial.w (hosts_text l.h l.outcome.logs) l.w
