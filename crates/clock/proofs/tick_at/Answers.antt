-- Each return has the tests that the definition asks. Assumes nothing.
use native.Mathlib.Omega.{arith}
use Rattle.clock.proofs.Sums.{showing_at, showing_below}
use Rattle.clock.proofs.tick_at.Goals as goal

pub returns-in_err-checked_sub : goal.returns-in_err-checked_sub
returns-in_err-checked_sub c = rw c.from_residual.ensures (showing_below _ _ (omega (arith, c.in_err-checked_sub.ensures)))

pub returns : goal.returns
returns c = simp (c.then_some.ensures, c.is_reading.ensures, c.in_ok-checked_sub.ensures.1, c.from.ensures) (showing_at _ _ (omega (arith, c.in_ok-checked_sub.ensures)))
