-- The invariant: the pairs of the links passed. Assumes nothing.
use mathlib.Core.Path.{sym, ap, ap₂, ◌∙◌}
use mathlib.Core.Bool.{Bool, ◌||◌}
use Prim.Native.Nat.{ℕ}
use native.Mathlib.Omega.{arith}
use borrow.Author.Rules.{rules}
use Rattle.lists.specs.Searches.{some}
use Rattle.lists.proofs.SearchLaws.{some_start, some_more}
use Rattle.network.specs.Network.{link}
use Rattle.network.specs.Inside.{pair, joins, linked}
use Rattle.network.specs.declared.Link.{Link}
use Rattle.network.proofs.Bits.{has_none, has_more}
use Rattle.network.proofs.Links.{is_place, is_link, past_links}
use Rattle.network.proofs.pairs.joined.Goals as goal

pub loop-link-init : goal.loop-link-init
loop-link-init c = λ a b ha hb. has_none _ ∙ sym (some_start _)

pub ends-pairs-requires : goal.ends-pairs-requires
ends-pairs-requires c =
    let p = c.args.p.plan in
    let e = c.args.p.small.ends c.loop-link.link-index (is_place p (search rules) _ c.loop-link-test.true) in
    let hosts = c.args.p.small.hosts in
    let here = is_link p (search rules) _ c.loop-link-test.true in
    rw here (omega (arith, e.0, e.1), omega (arith, e.1))

pub loop-link-preserved : goal.loop-link-preserved
loop-link-preserved c =
    λ a b ha hb.
    let s = c.loop-link in
    let here = is_link c.args.p.plan (search rules) _ c.loop-link-test.true in
    has_more s.pairs _ (pair a b)
    ∙ ap₂ (λ (x y : Bool). x || y) (c.ends-pairs.ensures a b ha hb ∙ ap (λ (l : Link). joins l a b) here) (s.invariant a b ha hb)
    ∙ sym (some_more (λ j. joins (link c.args.p.plan j) a b) s.link-index)

pub returns : goal.returns
unfolding linked
returns c =
    λ a b ha hb.
    let s = c.loop-link in
    s.invariant a b ha hb ∙ ap (λ (k : ℕ). some k (λ j. joins (link c.args.p.plan j) a b)) (past_links c.args.p.plan (search rules) _ s.auto.link-index-end c.loop-link-test.false)
