-- By recursion with k falling: what is within reach is all that is wanted, or one link more is tried. Assumes nothing.
use native.Mathlib.Omega.{arith}
use borrow.Author.Rules.{rules}
use borrow.Author.Tests.{eqb-false}
use mathlib.Core.Path.{◌≡◌}
use mathlib.Core.Bool.{Bool, false, ◌||◌}
use lib.Dec.{eqb}
use Prim.Native.Nat.{ℕ, suc, ◌<◌}
use Rattle.lists.proofs.Bools.{or_left_lem, or_right}
use Rattle.network.proofs.Leasts.{reached_now, reached_later, not_yet, spread_on}
use Rattle.network.proofs.reach.+reach.Goals as goal

some_left : (t : Bool) (k : ℕ) → (t || eqb k 0) ≡ false → 0 < k
some_left t k e = let none = eqb-false k 0 (or_right t _ e) in omega arith

pub returns-then-near-all-clause-by_index : goal.returns-then-near-all-clause-by_index
returns-then-near-all-clause-by_index _ c = λ t is st. reached_now c.args.joined c.args.all c.args.near c.args.k t is c.if-near-all.true

pub returns-clause-by_index : goal.returns-clause-by_index
returns-clause-by_index _ c =
    let g = c.args in
    let h = some_left (eqb g.near g.all) g.k c.if-near-all.false in
    λ t is st.
    reached_later g.joined g.all g.near g.k t is _ h
    (not_yet g.joined g.all g.near g.k t is (search rules) (search rules) (eqb-false g.near g.all (or_left_lem (eqb g.near g.all) _ c.if-near-all.false)))
    (c.reach.ensures.by_index (λ i. t (suc i)) (spread_on g.joined g.all g.near g.k t is c.spread.result c.spread.ensures st) (λ i. st (suc i)))
