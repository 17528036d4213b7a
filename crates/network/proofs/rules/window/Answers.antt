-- All sums and products of bytes fit. Assumes nothing.
use Rattle.network.specs.Network.{window}
use Rattle.network.proofs.Ranges.{bound_most, skews_most}
use native.Mathlib.Omega.{arith}
use Rattle.network.proofs.rules.window.Goals as goal

pub returns : goal.returns
unfolding window
returns c = simp (c.bound.ensures, c.skews.ensures)

pub overflow_add-result : goal.overflow_add-result
overflow_add-result c =
    let a = c.args in
    let b = bound_most a.p a.d 255 255 255 255 (omega arith) (omega arith) (omega arith) (omega arith) a.rules in
    simp (c.bound.ensures, c.skews.ensures) (omega (arith, skews_most a.p 255 (omega arith) a.rules))
