-- Each return has the tests that the definition asks. Assumes nothing.
use native.Mathlib.Omega.{arith}
use Rattle.clock.proofs.Sums.{shown_at, shown_past}
use Rattle.clock.proofs.reading_at.Goals as goal

pub returns-in_err-checked_add : goal.returns-in_err-checked_add
returns-in_err-checked_add c = rw c.from_residual.ensures (shown_past _ _ (omega (arith, c.in_err-checked_add.ensures)))

pub returns : goal.returns
returns c = simp (c.then_some.ensures, c.is_reading.ensures, c.in_ok-checked_add.ensures.1, c.from.ensures) (shown_at _ _)
