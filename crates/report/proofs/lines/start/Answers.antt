-- The test is the definition's; then its parts, one after the other. Assumes nothing.
use borrow.Author.Tests.{eq-eqb, ne_eqb}
use Rattle.report.specs.Text.{item, line, start_line}
use Rattle.report.proofs.Writing.{wrote_none, wrote_then}
use Rattle.report.proofs.lines.start.Goals as goal

pub returns-then-refusal-eq0 : goal.returns-then-refusal-eq0
unfolding start_line
returns-then-refusal-eq0 c = rw (eq-eqb _ _ c.if-refusal-eq0.true) (wrote_none _)

pub returns : goal.returns
unfolding item line start_line
returns c = rw (ne_eqb _ _ c.if-refusal-eq0.false) (wrote_then c.item.ensures c.line.ensures)
