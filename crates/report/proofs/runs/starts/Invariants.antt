-- As many lines are written as the loop has passed. Assumes nothing.
use Rattle.report.specs.Text.{starts_text}
use Rattle.report.specs.Inside.{Wrote}
use Rattle.report.proofs.runs.starts.Given as goal

abbrev pub invariant-loop-k : goal.invariant-loop-k
invariant-loop-k l = Wrote l.initial.w (starts_text l.k l.outcome.refusals) l.w
