-- What is counted is what was met so far; at the end all is met. Assumes nothing.
use native.Mathlib.Omega.{arith}
use mathlib.Core.Path.{◌∙◌}
use lib.Dec.{eqb}
use Rattle.schedule.proofs.Tallies.{one_if, one_most, partly_start, partly_next, partly_few, partly_end}
use Rattle.schedule.proofs.shape.Tally.of.Goals as goal

pub loop-end-init : goal.loop-end-init
loop-end-init c = partly_start c.args.bytes.now

pub overflow_add-links : goal.overflow_add-links
overflow_add-links c = let s = c.loop-end in let f = partly_few c.args.bytes.now s.count s.links s.starts s.end s.invariant in omega (arith, s.invariant.few, c.requires, c.from-links.ensures, one_most (eqb c.tag-tag.result 17))

pub overflow_add-starts : goal.overflow_add-starts
overflow_add-starts c = let s = c.loop-end in let f = partly_few c.args.bytes.now s.count s.links s.starts s.end s.invariant in omega (arith, s.invariant.few, c.requires, c.from-starts.ensures, one_most (eqb c.tag-tag.result 21))

pub loop-end-preserved : goal.loop-end-preserved
loop-end-preserved c = let s = c.loop-end in rw (c.from-links.ensures ∙ one_if _, c.from-starts.ensures ∙ one_if _, c.tag-tag.ensures, c.end-end.ensures) (partly_next c.args.bytes.now s.count s.links s.starts s.end s.invariant c.loop-end-test.true)

pub invariant_of-result : goal.invariant_of-result
invariant_of-result c =
    let s = c.loop-end in
    let f = partly_few c.args.bytes.now s.count s.links s.starts s.end s.invariant in
    let e = partly_end c.args.bytes.now s.count s.links s.starts s.end s.invariant c.loop-end-test.false in
    record { short = c.requires; few = omega (arith, s.invariant.few, c.requires); few_links = f.0; few_starts = f.1; count_is = e.count_is; links_are = e.links_are; starts_are = e.starts_are; end_is = e.end_is }
