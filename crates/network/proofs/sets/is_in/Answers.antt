-- A shift to the right divides; past the width nothing is left. Assumes nothing.
use borrow.Author.Rules.{rules}
use mathlib.Core.Path.{◌∙◌, sym, refl}
use Rattle.network.specs.Network.{has}
use Rattle.network.proofs.Bits.{has_past}
use borrow.Author.Tests.{le-ltb}
use Rattle.network.proofs.sets.is_in.Goals as goal

pub returns-then-i-lt32 : goal.returns-then-i-lt32
unfolding has
returns-then-i-lt32 c = refl

pub returns-else-i-lt32 : goal.returns-else-i-lt32
returns-else-i-lt32 c = le-ltb _ _ c.if-i-lt32.false ∙ sym (has_past _ _ (search rules) c.if-i-lt32.false)
