-- The invariant: in the set are each host with itself, and what the rows passed have put in. Assumes nothing.
use mathlib.Core.Bool.{◌&&◌, ◌||◌}
use Prim.Native.Nat.{◌≤◌}
use lib.Dec.{eqb}
use Rattle.lists.specs.Searches.{some}
use Rattle.network.specs.Network.{has}
use Rattle.network.specs.Inside.{pair, Pairs}
use Rattle.network.proofs.reach.spread.Given as goal

abbrev pub invariant-loop-c : goal.invariant-loop-c
invariant-loop-c l = (l.c ≤ 8) × Pairs l.out (λ a b. eqb a b || some l.c (λ d. has l.joined (pair a d) && has l.near (pair d b)))
