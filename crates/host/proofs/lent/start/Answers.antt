-- A state that is not sound is refused first; a refusal keeps the state; else the order is held. Assumes nothing.
use mathlib.Core.Path.{◌≡◌, sym, ap, ◌∙◌}
use borrow.Author.Tests.{not-true, not-false}
use Rattle.std.specs.Prelude.{Err}
use Rattle.host.specs.declared.Refusal.TheVariants.{Unsound}
use Rattle.host.specs.Answers.{number, Said, says}
use Rattle.host.specs.Start.{start_checks, start_tests, start_refusal}
use Rattle.host.proofs.Numbers.{kept, says_refused, said_refusal, passed, failed, err_is}
use Rattle.host.proofs.Answered.{unsound_first, start_said}
use Rattle.host.proofs.lent.start.Goals as goal

pub returns-in_err-refuse_if : goal.returns-in_err-refuse_if
unfolding start_tests
returns-in_err-refuse_if c =
    let a = c.args in
    let h = a.host.now in
    let f = failed _ _ _ _ c.refuse_if.ensures c.in_err-refuse_if.was in
    let e = unsound_first h (start_checks h a.u.0 a.order) (sym c.is_lent_sound.ensures ∙ not-true _ f.0) in
    (kept Unsound _ _ _ e, ap says (err_is _ _ c.from_residual.ensures.1 ∙ ap Err f.1) ∙ says_refused Unsound _ _ _ e)

pub returns-in_err-sent : goal.returns-in_err-sent
returns-in_err-sent c =
    let a = c.args in
    let h = a.host.now in
    let sound = sym c.is_lent_sound.ensures ∙ not-false _ (passed _ _ _ c.refuse_if.ensures c.in_ok-refuse_if.was) in
    let said = start_said h a.u.0 a.order _ sound c.frame_of-frame.ensures c.start_answer.ensures in
    let w = c.in_err-sent.field-0.0 in
    let was = ap says (sym c.in_err-sent.was) ∙ said in
    let e : number w ≡ start_refusal h a.u.0 a.order = ap (λ (s : Said). s.refusal) was ∙ said_refusal (start_refusal h a.u.0 a.order) _ _ in
    (kept w _ _ _ e, ap says (err_is _ w c.from_residual-in_err-sent.ensures.1) ∙ was)

pub start_held-requires : goal.start_held-requires
start_held-requires c =
    let a = c.args in
    let h = a.host.now in
    let sound = sym c.is_lent_sound.ensures ∙ not-false _ (passed _ _ _ c.refuse_if.ensures c.in_ok-refuse_if.was) in
    let said = start_said h a.u.0 a.order _ sound c.frame_of-frame.ensures c.start_answer.ensures in
    sym (said_refusal (start_refusal h a.u.0 a.order) _ _) ∙ sym (ap (λ (s : Said). s.refusal) (ap says (sym c.in_ok-sent.was) ∙ said))

pub returns : goal.returns
returns c =
    let a = c.args in
    let h = a.host.now in
    let sound = sym c.is_lent_sound.ensures ∙ not-false _ (passed _ _ _ c.refuse_if.ensures c.in_ok-refuse_if.was) in
    let said = start_said h a.u.0 a.order _ sound c.frame_of-frame.ensures c.start_answer.ensures in
    (c.start_held.ensures, ap says (sym c.in_ok-sent.was) ∙ said)
