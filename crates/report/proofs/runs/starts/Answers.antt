-- As many lines are written as the loop has passed. Assumes nothing.
use lib.ListN.{get_or}
use Rattle.report.specs.Text.{start_line}
use Rattle.report.proofs.Writing.{wrote_none, wrote_then, wrote_as, pieces_none, pieces_more}
use Rattle.report.proofs.runs.starts.Goals as goal

pub loop-k-init : goal.loop-k-init
loop-k-init c = wrote_as (pieces_none _) (wrote_none _)

pub loop-k-preserved : goal.loop-k-preserved
loop-k-preserved c = wrote_as (pieces_more (λ k. start_line k (get_or c.args.outcome.now.refusals k 0)) c.loop-k.k) (wrote_then c.loop-k.invariant c.start.ensures)
