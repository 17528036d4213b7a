-- The invariant: in the set are each host with itself, and what the rows passed have put in. Assumes nothing.
use mathlib.Core.Path.{sym, ap, ap₂, ◌∙◌}
use mathlib.Core.Bool.{Bool, ◌&&◌, ◌||◌, or-false}
use Prim.Native.Nat.{ℕ}
use borrow.Author.Rules.{rules}
use lib.Dec.{eqb}
use Rattle.lists.specs.Searches.{some}
use Rattle.lists.proofs.Bools.{or_swap}
use Rattle.lists.proofs.SearchLaws.{some_start, some_more, at_end}
use Rattle.network.specs.Network.{has}
use Rattle.network.specs.Inside.{pair, spreads}
use Rattle.network.proofs.Bits.{has_more}
use Rattle.network.proofs.PairLaws.{itself}
use Rattle.network.proofs.Rows.{row_has}
use Rattle.network.proofs.reach.spread.Goals as goal

pub loop-c-init : goal.loop-c-init
loop-c-init c = (search rules, λ a b ha hb. itself a b ha hb ∙ sym (ap (λ (t : Bool). eqb a b || t) (some_start _) ∙ or-false (eqb a b)))

pub loop-c-preserved : goal.loop-c-preserved
loop-c-preserved c =
    let g = c.args in
    let s = c.loop-c in (
      search rules,
      λ a b ha hb.
          let by : ℕ → Bool = λ d. has g.joined (pair a d) && has g.near (pair d b) in
          has_more s.out _ (pair a b)
          ∙ ap₂ (λ (x y : Bool). x || y) (row_has g.near g.joined a b s.c ha hb) (s.invariant.1 a b ha hb)
          ∙ or_swap (by s.c) (eqb a b) (some s.c by)
          ∙ ap (λ (t : Bool). eqb a b || t) (sym (some_more by s.c)),
    )

pub returns : goal.returns
unfolding spreads
returns c =
    λ a b ha hb.
    at_end (λ (k : ℕ). eqb a b || some k (λ d. has c.args.joined (pair a d) && has c.args.near (pair d b))) c.loop-c.invariant.0 c.loop-c-test.false (c.loop-c.invariant.1 a b ha hb)
