-- As many lines are written as the loop has passed. Assumes nothing.
use lib.ListN.{get_or}
use Rattle.lists.specs.Lists.{flat, listed}
use Rattle.engine.specs.Parts.{no_delivery}
use Rattle.report.specs.Text.{delivery_line}
use Rattle.report.specs.Inside.{Wrote}
use Rattle.report.proofs.runs.host.Given as goal

abbrev pub invariant-loop-i : goal.invariant-loop-i
invariant-loop-i l = Wrote l.initial.w (flat (listed l.i (λ j. delivery_line l.own (get_or l.log.entries j no_delivery)))) l.w
