-- No clock passes the largest reading within a run. Assumes nothing.
use mathlib.Core.Path.{refl, sym, ◌∙◌}
use borrow.Author.Rules.{rules}
use Rattle.engine.proofs.Readings.{shows}
use Rattle.engine.proofs.clocks.clock_of.Goals as goal

pub unwrap-requires : goal.unwrap-requires
unwrap-requires c = rw (c.reading_at.ensures ∙ shows c.args.t _ (search rules)) refl

pub returns : goal.returns
returns c = let e = sym c.unwrap.ensures ∙ c.reading_at.ensures ∙ shows c.args.t _ (search rules) in cc e
