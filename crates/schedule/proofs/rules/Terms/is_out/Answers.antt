-- By cases on the tag. Assumes nothing.
use Rattle.std.proofs.Common.{◌≢◌}
use native.Mathlib.Omega.{arith}
use mathlib.Core.Path.{sym, ◌∙◌}
use borrow.Author.Tests.{ne_eqb}
use Rattle.schedule.specs.Rules.{out_at}
use Rattle.schedule.proofs.rules.Terms.is_out.Goals as goal

pub returns-in-18 : goal.returns-in-18
unfolding out_at
returns-in-18 c = simp (c.faults_within.ensures, sym c.tag.ensures ∙ c.in-18.is)

pub returns-in-19 : goal.returns-in-19
unfolding out_at
returns-in-19 c = simp (c.offsets_out.ensures, sym c.tag.ensures ∙ c.in-19.is)

pub returns-in-20 : goal.returns-in-20
unfolding out_at
returns-in-20 c = simp (sym c.tag.ensures ∙ c.in-20.is)

pub returns-in-21 : goal.returns-in-21
unfolding out_at
returns-in-21 c = simp (c.start_out.ensures, sym c.tag.ensures ∙ c.in-21.is)

pub returns-in-22 : goal.returns-in-22
unfolding out_at
returns-in-22 c = simp (c.fate_out.ensures, sym c.tag.ensures ∙ c.in-22.is)

pub returns-in_default : goal.returns-in_default
unfolding out_at
returns-in_default c =
    let n18 : c.tag.result ≢ 18 = omega arith in
    let n19 : c.tag.result ≢ 19 = omega arith in
    let n20 : c.tag.result ≢ 20 = omega arith in
    let n21 : c.tag.result ≢ 21 = omega arith in
    let n22 : c.tag.result ≢ 22 = omega arith in
    rw (← c.tag.ensures) (simp (ne_eqb _ _ n18, ne_eqb _ _ n19, ne_eqb _ _ n20, ne_eqb _ _ n21, ne_eqb _ _ n22))
