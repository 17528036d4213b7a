-- By cases on the tag. Assumes nothing.
use Rattle.std.proofs.Common.{◌≢◌}
use native.Mathlib.Omega.{arith}
use mathlib.Core.Path.{sym, ◌∙◌}
use borrow.Author.Tests.{ne_eqb}
use Rattle.schedule.specs.Shape.{fits_at}
use Rattle.schedule.proofs.shape.Tally.fits.Goals as goal

pub returns-in-16 : goal.returns-in-16
unfolding fits_at
returns-in-16 c = simp (c.size-size.ensures, sym c.tag.ensures ∙ c.in-16.is)

pub returns-in-17 : goal.returns-in-17
unfolding fits_at
returns-in-17 c = simp (c.size-size.ensures, sym c.tag.ensures ∙ c.in-17.is)

pub returns-in-18 : goal.returns-in-18
unfolding fits_at
returns-in-18 c = simp (c.size-size.ensures, sym c.tag.ensures ∙ c.in-18.is)

pub returns-in-19 : goal.returns-in-19
unfolding fits_at
returns-in-19 c = simp (c.size-size.ensures, c.hosts.ensures, sym c.tag.ensures ∙ c.in-19.is)

pub returns-in-20 : goal.returns-in-20
unfolding fits_at
returns-in-20 c = simp (c.size-size.ensures, sym c.tag.ensures ∙ c.in-20.is)

pub returns-in-21 : goal.returns-in-21
unfolding fits_at
returns-in-21 c = simp (c.start_fits.ensures, sym c.tag.ensures ∙ c.in-21.is)

pub returns-in_default : goal.returns-in_default
unfolding fits_at
returns-in_default c =
    let n16 : c.tag.result ≢ 16 = omega arith in
    let n17 : c.tag.result ≢ 17 = omega arith in
    let n18 : c.tag.result ≢ 18 = omega arith in
    let n19 : c.tag.result ≢ 19 = omega arith in
    let n20 : c.tag.result ≢ 20 = omega arith in
    let n21 : c.tag.result ≢ 21 = omega arith in
    rw (← c.tag.ensures) (simp (c.fate_fits.ensures, ne_eqb _ _ n16, ne_eqb _ _ n17, ne_eqb _ _ n18, ne_eqb _ _ n19, ne_eqb _ _ n20, ne_eqb _ _ n21))
