-- The invariant: the pairs of the links passed. Assumes nothing.
use Rattle.lists.specs.Searches.{some}
use Rattle.network.specs.Network.{link}
use Rattle.network.specs.Inside.{Pairs, joins}
use Rattle.network.proofs.pairs.joined.Given as goal

abbrev pub invariant-loop-link : goal.invariant-loop-link
invariant-loop-link l = Pairs l.pairs (λ a b. some l.link-index (λ j. joins (link l.fn.p.plan j) a b))
