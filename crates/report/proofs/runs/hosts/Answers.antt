-- As many hosts' lines are written as the loop has passed. Assumes nothing.
use native.Mathlib.Omega.{arith}
use lib.ListN.{get_or}
use Rattle.engine.specs.Parts.{no_log}
use Rattle.report.specs.Text.{host_text}
use Rattle.report.proofs.Writing.{wrote_none, wrote_then, wrote_as, pieces_none, pieces_more}
use Rattle.report.proofs.runs.hosts.Goals as goal

pub loop-h-init : goal.loop-h-init
loop-h-init c = wrote_as (pieces_none _) (wrote_none _)

pub loop-h-preserved : goal.loop-h-preserved
loop-h-preserved c = wrote_as (pieces_more (λ h. host_text h (get_or c.args.outcome.now.logs h no_log)) c.loop-h.h) (wrote_then c.loop-h.invariant c.host.ensures)

pub host-requires : goal.host-requires
host-requires c = let all = c.requires in all.logs c.loop-h.h (omega arith)
