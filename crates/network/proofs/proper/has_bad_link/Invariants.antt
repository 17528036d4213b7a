-- The invariant: no link passed is bad, and the pairs seen are those of the links passed. Assumes nothing.
use mathlib.Core.Path.{◌≡◌}
use mathlib.Core.Bool.{false}
use Rattle.lists.specs.Searches.{some}
use Rattle.network.specs.Network.{bad_link}
use Rattle.network.specs.Inside.{Pairs, is_pair}
use Rattle.network.proofs.proper.has_bad_link.Given as goal

abbrev pub invariant-loop-link : goal.invariant-loop-link
invariant-loop-link l = (some l.link-index (bad_link l.fn.p) ≡ false) × Pairs l.seen (λ x y. some l.link-index (is_pair l.fn.p x y))
