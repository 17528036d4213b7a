-- Its parts, one after the other. Assumes nothing.
use Rattle.report.specs.Text.{item, line, outcome_text}
use Rattle.report.proofs.Writing.{wrote_then}
use Rattle.report.proofs.lines.whole.Goals as goal

pub returns : goal.returns
unfolding item line outcome_text
returns c = wrote_then (wrote_then (wrote_then c.line.ensures c.starts.ensures) c.hosts.ensures) c.line-2.ensures
