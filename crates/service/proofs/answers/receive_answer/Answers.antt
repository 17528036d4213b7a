-- Memory that stands for no sound state is refused 9; else the host's own answer is taken, by the frame and what is held under the name. Assumes nothing.
use mathlib.Core.Path.{sym, ap, ◌∙◌}
use Rattle.std.specs.Prelude.{Err}
use Rattle.lists.specs.Lists.{any}
use Rattle.host.specs.declared.Refusal.TheVariants.{Unsound}
use Rattle.host.specs.Answers.{says}
use Rattle.host.specs.State.{held_of, same_name}
use Rattle.host.specs.Receive.{same_held, other_held, receive_tests, receive_checks}
use Rattle.host.proofs.Answered.{unsound_first, receive_said}
use Rattle.host.proofs.Facts.{sound_is}
use Rattle.host.proofs.Numbers.{err_is, says_refused}
use Rattle.service.specs.Memory.{host_from}
use Rattle.service.proofs.Flats.{held_in}
use Rattle.service.proofs.Sounds.{framed_is, unframed_is}
use Rattle.service.proofs.answers.receive_answer.Goals as goal

pub returns-in_err-frame : goal.returns-in_err-frame
unfolding receive_tests
returns-in_err-frame c =
    let a = c.args in
    let h = host_from a.memory.now in
    let x = a.copy in
    let bad = unframed_is h c.sound_frame.ensures c.in_err-frame.was in
    let checks = receive_checks h a.u.0 a.link a.hop x (any (same_held x) (held_of h)) (any (other_held x) (held_of h)) (any (same_name x) (held_of h)) in
    ap says (err_is _ _ c.from_residual.ensures.1 ∙ ap Err bad.1) ∙ says_refused Unsound _ _ _ (unsound_first h checks bad.0)

pub shared_ref_as_front-look : goal.shared_ref_as_front-look
shared_ref_as_front-look c = let h = host_from c.args.memory.now in (sound_is h (framed_is h c.sound_frame.ensures c.in_ok-frame.was).0).held

pub returns : goal.returns
returns c =
    let a = c.args in
    let f = a.memory.now in
    let h = host_from f in
    let x = a.copy in
    let good = framed_is h c.sound_frame.ensures c.in_ok-frame.was in
    let seen = c.look-seen.ensures in
    receive_said h a.u.0 a.link a.hop x _ _ _ _ good.0 good.1 (
      seen.same_value ∙ ap (any (same_held x)) (sym (held_in f)),
      (seen.other_value ∙ ap (any (other_held x)) (sym (held_in f)), seen.named_value ∙ ap (any (same_name x)) (sym (held_in f))),
    )
    c.receive_answer.ensures
