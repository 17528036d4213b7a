-- As many lines are written as the loop has passed. Assumes nothing.
use lib.ListN.{get_or}
use Rattle.engine.specs.Parts.{no_delivery}
use Rattle.report.specs.Text.{delivery_line}
use Rattle.report.proofs.Writing.{wrote_none, wrote_then, wrote_as, pieces_none, pieces_more}
use Rattle.report.proofs.runs.host.Goals as goal

pub loop-i-init : goal.loop-i-init
loop-i-init c = wrote_as (pieces_none _) (wrote_none _)

pub loop-i-preserved : goal.loop-i-preserved
loop-i-preserved c = wrote_as (pieces_more (λ j. delivery_line c.args.own (get_or c.args.log.now.entries j no_delivery)) c.loop-i.i) (wrote_then c.loop-i.invariant c.delivery.ensures)
