-- Each link of the set below l has its copy sent. Assumes nothing.
use borrow.Author.Tests.{eq-eqb, ne_eqb}
use mathlib.Core.Path.{◌≡◌, sym, ap, ◌∙◌}
use Prim.Native.Nat.{ℕ, ◌+◌}
use native.Mathlib.Omega.{arith}
use lib.ListN.{set}
use Rattle.network.specs.Network.{has}
use Rattle.engine.specs.declared.Post.{Post}
use Rattle.engine.specs.Parts.{copy_from}
use Rattle.engine.specs.Run.{sent, send_one}
use Rattle.engine.specs.Inside.{post_of}
use Rattle.engine.proofs.Turns.{no_turn, turn_if, turn_else}
use Rattle.engine.proofs.sending.send_all.Goals as goal
use Rattle.engine.proofs.sending.send_all.Goals.{then-is_in+then-delay-ne0, then-is_in+else-delay-ne0, else-is_in}

pub loop-l-init : goal.loop-l-init
loop-l-init c = let a = c.args in (no_turn (send_one a.s.now a.t a.k a.p c.links_of-links.result) a.post.now, omega arith)

pub loop-l-preserved : goal.loop-l-preserved
loop-l-preserved c = let a = c.args in
    let s = a.s.now in
    let l = c.loop-l in
    let old : Post = l.post in
    let kept = l.invariant.0 in
    let more = l.invariant.1 in
    let test = λ (i : ℕ) (q : Post). has c.links_of-links.result i in
    let each = λ (i : ℕ) (q : Post). sent s a.t (copy_from s.plan a.k a.p i) q in
    elim c.if-is_in.branch [
      | then-is_in+then-delay-ne0 x ↦
          let at = x.place-c in
          let new : post_of (set old.arrivals at.result x.later.result) (old.copies + 1) ≡ sent s a.t at.result old = simp (ne_eqb _ _ x.if-delay-ne0.true, x.later.ensures) in
          (turn_if test each l.l a.post.now old _ kept (sym c.is_in.ensures ∙ x.if-is_in.true) (x.post-is ∙ new ∙ ap (λ (i : ℕ). sent s a.t i old) at.ensures.0), omega (arith, ap (λ (q : Post). q.copies) x.post-is))
      | then-is_in+else-delay-ne0 x ↦
          let at = x.place-c in
          let new : post_of old.arrivals (old.copies + 1) ≡ sent s a.t at.result old = simp (eq-eqb _ _ x.if-delay-ne0.false) in
          (turn_if test each l.l a.post.now old _ kept (sym c.is_in.ensures ∙ x.if-is_in.true) (x.post-is ∙ new ∙ ap (λ (i : ℕ). sent s a.t i old) at.ensures.0), omega (arith, ap (λ (q : Post). q.copies) x.post-is))
      | else-is_in x ↦
          (x.post-is ∙ turn_else test each l.l a.post.now old kept (sym c.is_in.ensures ∙ x.if-is_in.false), omega (arith, ap (λ (q : Post). q.copies) x.post-is))
    ]
