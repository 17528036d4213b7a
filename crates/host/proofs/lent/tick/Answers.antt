-- A state that is not sound is refused first; a refusal keeps the state and the lent list; else both are what is left. Assumes nothing.
use mathlib.Core.Path.{◌≡◌, sym, ap, ◌∙◌}
use borrow.Author.Tests.{not-true, not-false}
use lib.ListN.{length}
use Rattle.std.specs.Prelude.{Err}
use Rattle.host.specs.declared.Refusal.TheVariants.{Unsound}
use Rattle.host.specs.Answers.{number, SaidTick, says_tick}
use Rattle.host.specs.Tick.{due_of, tick_checks, tick_tests, tick_refusal}
use Rattle.host.proofs.Numbers.{kept, tick_refused, tick_refusal_lem, passed, failed, err_is}
use Rattle.host.proofs.Answered.{unsound_first, tick_said}
use Rattle.host.proofs.lent.tick.Goals as goal

pub returns-in_err-refuse_if : goal.returns-in_err-refuse_if
unfolding tick_tests
returns-in_err-refuse_if c =
    let a = c.args in
    let h = a.host.now in
    let f = failed _ _ _ _ c.refuse_if.ensures c.in_err-refuse_if.was in
    let e = unsound_first h (tick_checks h a.u.0 (length a.out.now) (length (due_of h a.u.0))) (sym c.is_lent_sound.ensures ∙ not-true _ f.0) in
    (kept Unsound _ _ _ e, (ap says_tick (err_is _ _ c.from_residual.ensures.1 ∙ ap Err f.1) ∙ tick_refused Unsound _ _ e, kept Unsound _ _ _ e))

pub due_count-count-requires : goal.due_count-count-requires
due_count-count-requires c = sym c.is_lent_sound.ensures ∙ not-false _ (passed _ _ _ c.refuse_if.ensures c.in_ok-refuse_if.was)

pub returns-in_err-delivered : goal.returns-in_err-delivered
returns-in_err-delivered c =
    let a = c.args in
    let h = a.host.now in
    let sound = sym c.is_lent_sound.ensures ∙ not-false _ (passed _ _ _ c.refuse_if.ensures c.in_ok-refuse_if.was) in
    let said = tick_said h a.u.0 (length a.out.now) _ _ sound c.frame_of-frame.ensures c.due_count-count.ensures c.tick_answer.ensures in
    let w = c.in_err-delivered.field-0.0 in
    let was = ap says_tick (sym c.in_err-delivered.was) ∙ said in
    let e : number w ≡ tick_refusal h a.u.0 (length a.out.now) = ap (λ (s : SaidTick). s.refusal) was ∙ tick_refusal_lem (tick_refusal h a.u.0 (length a.out.now)) _ in
    (kept w _ _ _ e, (ap says_tick (err_is _ w c.from_residual-in_err-delivered.ensures.1) ∙ was, kept w _ _ _ e))

pub tick_left-requires : goal.tick_left-requires
tick_left-requires c =
    let a = c.args in
    let h = a.host.now in
    let sound = sym c.is_lent_sound.ensures ∙ not-false _ (passed _ _ _ c.refuse_if.ensures c.in_ok-refuse_if.was) in
    let said = tick_said h a.u.0 (length a.out.now) _ _ sound c.frame_of-frame.ensures c.due_count-count.ensures c.tick_answer.ensures in
    sym (tick_refusal_lem (tick_refusal h a.u.0 (length a.out.now)) _) ∙ sym (ap (λ (s : SaidTick). s.refusal) (ap says_tick (sym c.in_ok-delivered.was) ∙ said))

pub returns : goal.returns
returns c =
    let a = c.args in
    let h = a.host.now in
    let sound = sym c.is_lent_sound.ensures ∙ not-false _ (passed _ _ _ c.refuse_if.ensures c.in_ok-refuse_if.was) in
    let said = tick_said h a.u.0 (length a.out.now) _ _ sound c.frame_of-frame.ensures c.due_count-count.ensures c.tick_answer.ensures in
    (c.tick_left.ensures.value, (ap says_tick (sym c.in_ok-delivered.was) ∙ said, c.tick_left.ensures.out_after))
