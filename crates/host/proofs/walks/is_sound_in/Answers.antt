-- Each turn tests the first of what is left, and what is left still decides. Behind those in use the unused places are gathered. Assumes nothing.
use Rattle.std.proofs.Common.{arith, sym, ap, ◌∙◌, take, drop, ◌≡◌, eqb}
use borrow.Author.Tests.{lt-leb}
use Rattle.std.proofs.lemmas.List.{take_min, drop_min}
use Rattle.lists.proofs.Loops.{item_next}
use Rattle.lists.proofs.Steps.{step_unfit, step_unordered, step_turn, step_fit, step_rise}
use Rattle.lists.proofs.Walks.{tested_end}
use Rattle.lists.proofs.Zeros.{gather_turn}
use Rattle.host.specs.State.{bare, last_start}
use Rattle.host.proofs.Owns.{fit_stamp, end_turn, end_end}
use Rattle.host.proofs.Sounds.{unframed, misses, rest}
use Rattle.host.proofs.walks.is_sound_in.Goals as goal

pub returns-then-not-is_framed : goal.returns-then-not-is_framed
returns-then-not-is_framed g c = sym (unframed g.E.Stored.as_held c.args.frame c.args.history.now (sym c.is_framed.ensures ∙ c.if-not-is_framed.true))

pub returns-then-frame-gt32 : goal.returns-then-frame-gt32
returns-then-frame-gt32 g c = sym (misses g.E.Stored.as_held c.args.frame c.args.history.now 0 (lt-leb _ _ c.if-frame-gt32.true))

pub returns-then-not-is_fit : goal.returns-then-not-is_fit
returns-then-not-is_fit g c =
    let next = item_next _ c.loop-e-test.true c.e-item.is in
    let used : c.split_at.result.0.now ≡ take c.args.frame.held c.args.history.now = c.split_at.ensures.front ∙ ap (λ n. take n c.args.history.now) c.min.ensures ∙ take_min c.args.frame.held c.args.history.now in
    sym (misses g.E.Stored.as_held c.args.frame c.args.history.now 1 (rw used at (step_unfit c.loop-e.invariant.0 _ next c.is_fit.ensures c.if-not-is_fit.true)))

pub returns-then-not-may_follow : goal.returns-then-not-may_follow
returns-then-not-may_follow g c =
    let next = item_next _ c.loop-e-test.true c.e-item.is in
    let used : c.split_at.result.0.now ≡ take c.args.frame.held c.args.history.now = c.split_at.ensures.front ∙ ap (λ n. take n c.args.history.now) c.min.ensures ∙ take_min c.args.frame.held c.args.history.now in
    sym (misses g.E.Stored.as_held c.args.frame c.args.history.now 2 (rw used at (step_unordered c.loop-e.invariant.0 _ next c.may_follow.ensures c.if-not-may_follow.true)))

pub loop-e-preserved : goal.loop-e-preserved
loop-e-preserved g c =
    let next = item_next _ c.loop-e-test.true c.e-item.is in
    let inv = c.loop-e.invariant in (
      step_turn inv.0 _ next c.is_fit.ensures c.if-not-is_fit.false c.may_follow.ensures c.if-not-may_follow.false,
      rw c.past_own-own_end.ensures (end_turn _ _ _ _ inv.1 _ next c.may_follow.ensures c.if-not-may_follow.false),
    )

pub past_own-own_end-requires : goal.past_own-own_end-requires
past_own-own_end-requires g c = fit_stamp c.args.frame.plan.hosts (g.E.Stored.as_held c.e-item.result) (sym c.is_fit.ensures ∙ c.if-not-is_fit.false)

pub returns-then-not-is_started : goal.returns-then-not-is_started
returns-then-not-is_started g c =
    let used : c.split_at.result.0.now ≡ take c.args.frame.held c.args.history.now = c.split_at.ensures.front ∙ ap (λ n. take n c.args.history.now) c.min.ensures ∙ take_min c.args.frame.held c.args.history.now in
    let started = end_end c.args.frame.own c.args.frame.started (last_start (bare c.args.frame)) g.E.Stored.as_held c.loop-e.invariant.1 c.loop-e-test.false in
    sym (misses g.E.Stored.as_held c.args.frame c.args.history.now 3 (rw used at (sym started ∙ sym c.is_started.ensures ∙ c.if-not-is_started.true)))

pub loop-e-2-preserved : goal.loop-e-2-preserved
loop-e-2-preserved g c = gather_turn _ _ _ c.loop-e-2.invariant c.loop-e-2-test.true c.e-item-in-loop-e-2.is (ap (λ n. eqb n 0) c.bits-bits.ensures ∙ g.met.E.Stored.unused _)

pub returns : goal.returns
returns g c =
    let used : c.split_at.result.0.now ≡ take c.args.frame.held c.args.history.now = c.split_at.ensures.front ∙ ap (λ n. take n c.args.history.now) c.min.ensures ∙ take_min c.args.frame.held c.args.history.now in
    let unused : c.split_at.result.1.now ≡ drop c.args.frame.held c.args.history.now = c.split_at.ensures.back ∙ ap (λ n. drop n c.args.history.now) c.min.ensures ∙ drop_min c.args.frame.held c.args.history.now in
    let inv = c.loop-e.invariant in
    let end = c.loop-e-test.false in
    let started = end_end c.args.frame.own c.args.frame.started (last_start (bare c.args.frame)) g.E.Stored.as_held inv.1 end in
    rest g.E.Stored.as_held c.args.frame c.args.history.now _
    (sym c.is_framed.ensures ∙ c.if-not-is_framed.false)
    (omega arith)
    (rw used at (step_fit inv.0 end))
    (rw used at (step_rise inv.0 end))
    (rw used at (sym started ∙ sym c.is_started.ensures ∙ c.if-not-is_started.false))
    (rw unused at (tested_end c.loop-e-2.invariant c.loop-e-2-test.false))
