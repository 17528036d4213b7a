-- All digits but the last are written by itself, and then the last. Assumes nothing.
use Rattle.report.proofs.Writing.{wrote_then, wrote_as, decimal_last, decimal_more}
use native.Mathlib.Omega.{arith}
use Rattle.report.proofs.writers.Writer.+number.Goals as goal
use Rattle.report.proofs.writers.Writer.+number.Goals.{then-x-ge10, else-x-ge10}

pub returns : goal.returns
returns _ c =
    let x = c.args.x in
    elim c.if-x-ge10.branch [
      | then-x-ge10 w ↦ wrote_as (decimal_more x w.if-x-ge10.true (omega arith)) (wrote_then (rw w.self-is w.number.ensures) c.put.ensures)
      | else-x-ge10 w ↦ wrote_as (decimal_last x w.if-x-ge10.false) (rw w.self-is at c.put.ensures)
    ]
