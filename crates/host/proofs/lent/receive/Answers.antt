-- A state that is not sound is refused first; a refusal keeps the state; else the order is held. Assumes nothing.
use mathlib.Core.Path.{◌≡◌, sym, ap, ◌∙◌}
use borrow.Author.Tests.{not-true, not-false}
use Rattle.std.proofs.Common.{map-id}
use Rattle.std.specs.Prelude.{Err}
use Rattle.lists.specs.Lists.{any}
use Rattle.host.specs.declared.Refusal.TheVariants.{Unsound}
use Rattle.host.specs.State.{held_of, same_name}
use Rattle.host.specs.Answers.{number, Said, says}
use Rattle.host.specs.Receive.{same_held, other_held, receive_checks, receive_tests, receive_refusal}
use Rattle.host.proofs.Numbers.{kept, says_refused, said_refusal, passed, failed, err_is}
use Rattle.host.proofs.Facts.{sound_is}
use Rattle.host.proofs.Answered.{unsound_first, receive_said}
use Rattle.host.proofs.lent.receive.Goals as goal

pub returns-in_err-refuse_if : goal.returns-in_err-refuse_if
unfolding receive_tests
returns-in_err-refuse_if c =
    let a = c.args in
    let h = a.host.now in
    let x = a.copy in
    let f = failed _ _ _ _ c.refuse_if.ensures c.in_err-refuse_if.was in
    let e = unsound_first h (receive_checks h a.u.0 a.arrival a.hop x (any (same_held x) (held_of h)) (any (other_held x) (held_of h)) (any (same_name x) (held_of h))) (sym c.is_lent_sound.ensures ∙ not-true _ f.0) in
    (kept Unsound _ _ _ e, ap says (err_is _ _ c.from_residual.ensures.1 ∙ ap Err f.1) ∙ says_refused Unsound _ _ _ e)

pub shared_ref_as_front-held : goal.shared_ref_as_front-held
shared_ref_as_front-held c =
    (sound_is c.args.host.now (sym c.is_lent_sound.ensures ∙ not-false _ (passed _ _ _ c.refuse_if.ensures c.in_ok-refuse_if.was))).held

pub returns-in_err-sent : goal.returns-in_err-sent
returns-in_err-sent c =
    let a = c.args in
    let h = a.host.now in
    let sound = sym c.is_lent_sound.ensures ∙ not-false _ (passed _ _ _ c.refuse_if.ensures c.in_ok-refuse_if.was) in
    let own = map-id (held_of h) in
    let looked = c.look-seen.ensures in
    let said = receive_said h a.u.0 a.arrival a.hop a.copy _ _ _ _ sound c.frame_of-frame.ensures (looked.same_value ∙ ap (any (same_held a.copy)) own, (looked.other_value ∙ ap (any (other_held a.copy)) own, looked.named_value ∙ ap (any (same_name a.copy)) own)) c.receive_answer.ensures in
    let w = c.in_err-sent.field-0.0 in
    let was = ap says (sym c.in_err-sent.was) ∙ said in
    let e : number w ≡ receive_refusal h a.u.0 a.arrival a.hop a.copy = ap (λ (s : Said). s.refusal) was ∙ said_refusal (receive_refusal h a.u.0 a.arrival a.hop a.copy) _ _ in
    (kept w _ _ _ e, ap says (err_is _ w c.from_residual-in_err-sent.ensures.1) ∙ was)

pub receive_held-requires : goal.receive_held-requires
receive_held-requires c =
    let a = c.args in
    let h = a.host.now in
    let sound = sym c.is_lent_sound.ensures ∙ not-false _ (passed _ _ _ c.refuse_if.ensures c.in_ok-refuse_if.was) in
    let own = map-id (held_of h) in
    let looked = c.look-seen.ensures in
    let said = receive_said h a.u.0 a.arrival a.hop a.copy _ _ _ _ sound c.frame_of-frame.ensures (looked.same_value ∙ ap (any (same_held a.copy)) own, (looked.other_value ∙ ap (any (other_held a.copy)) own, looked.named_value ∙ ap (any (same_name a.copy)) own)) c.receive_answer.ensures in
    sym (said_refusal (receive_refusal h a.u.0 a.arrival a.hop a.copy) _ _) ∙ sym (ap (λ (s : Said). s.refusal) (ap says (sym c.in_ok-sent.was) ∙ said))

pub returns : goal.returns
returns c =
    let a = c.args in
    let h = a.host.now in
    let sound = sym c.is_lent_sound.ensures ∙ not-false _ (passed _ _ _ c.refuse_if.ensures c.in_ok-refuse_if.was) in
    let own = map-id (held_of h) in
    let looked = c.look-seen.ensures in
    let said = receive_said h a.u.0 a.arrival a.hop a.copy _ _ _ _ sound c.frame_of-frame.ensures (looked.same_value ∙ ap (any (same_held a.copy)) own, (looked.other_value ∙ ap (any (other_held a.copy)) own, looked.named_value ∙ ap (any (same_name a.copy)) own)) c.receive_answer.ensures in
    (c.receive_held.ensures, ap says (sym c.in_ok-sent.was) ∙ said)
