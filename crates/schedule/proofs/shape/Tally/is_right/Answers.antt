-- By what the two ensure. Assumes nothing.
use Rattle.schedule.specs.Shape.{right_at}
use Rattle.schedule.proofs.shape.Tally.is_right.Goals as goal

pub returns : goal.returns
unfolding right_at
returns c = simp (c.tag.ensures, c.tag_of.ensures, c.fits.ensures)
