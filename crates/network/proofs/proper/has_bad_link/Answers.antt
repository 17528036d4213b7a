-- The invariant: no link passed is bad, and the pairs seen are those of the links passed. Assumes nothing.
use mathlib.Core.Path.{sym, ap, ◌∙◌}
use Prim.Native.Nat.{ℕ, ◌<◌}
use native.Mathlib.Omega.{arith}
use borrow.Author.Rules.{rules}
use borrow.Author.Tests.{eq-eqb, ne_eqb}
use Rattle.lists.specs.Searches.{some}
use Rattle.lists.proofs.SearchLaws.{some_start, some_again, some_true}
use Rattle.network.specs.Network.{link, has, bad_link, bad_links}
use Rattle.network.proofs.Bits.{has_none}
use Rattle.network.proofs.Links.{is_place, is_link, past_links}
use Rattle.network.proofs.Repeats.{ordered, bad_ends, bad_again, not_bad, seen_more}
use Rattle.network.proofs.proper.has_bad_link.Goals as goal

pub loop-link-init : goal.loop-link-init
loop-link-init c = (some_start _, λ x y hx hy. has_none _ ∙ sym (some_start _))

pub returns-then-link-p : goal.returns-then-link-p
unfolding bad_links
returns-then-link-p c =
    let p = c.args.p in
    let i = c.loop-link.link-index in
    let here = is_link p (search rules) i c.loop-link-test.true in
    sym (some_true (bad_link p) p.link_count i (is_place p (search rules) i c.loop-link-test.true) (bad_ends p i (rw here at c.if-link-p.true)))

pub returns-then-seen-at-eq1 : goal.returns-then-seen-at-eq1
unfolding bad_links has
returns-then-seen-at-eq1 c =
    let p = c.args.p in
    let i = c.loop-link.link-index in
    let here = is_link p (search rules) i c.loop-link-test.true in
    let o = ordered (link p i).a (link p i).b p.hosts (rw here at c.if-link-p.false) in
    sym (some_true (bad_link p) p.link_count i (is_place p (search rules) i c.loop-link-test.true)
    (bad_again p i (sym (c.loop-link.invariant.1 _ _ (omega arith) (omega arith)) ∙ eq-eqb _ _ (rw here at c.if-seen-at-eq1.true))))

pub loop-link-preserved : goal.loop-link-preserved
unfolding has
loop-link-preserved c =
    let p = c.args.p in
    let i = c.loop-link.link-index in
    let here = is_link p (search rules) i c.loop-link-test.true in
    let o = ordered (link p i).a (link p i).b p.hosts (rw here at c.if-link-p.false) in
    let ha : (link p i).a < 8 = omega arith in
    let hb : (link p i).b < 8 = omega arith in (
      some_again (bad_link p) i (not_bad p i o.0 o.1 (sym (c.loop-link.invariant.1 (link p i).a (link p i).b ha hb) ∙ ne_eqb _ _ (rw here at c.if-seen-at-eq1.false))) c.loop-link.invariant.0,
      rw here (seen_more p i c.loop-link.seen ha hb c.loop-link.invariant.1),
    )

pub returns : goal.returns
unfolding bad_links
returns c =
    sym c.loop-link.invariant.0
    ∙ ap (λ (k : ℕ). some k (bad_link c.args.p)) (past_links c.args.p (search rules) _ c.loop-link.auto.link-index-end c.loop-link-test.false)
