-- Memory that stands for no sound state is refused 9; else the host's own answer is taken, by the frame and how many are due: stamps rise, so those
-- stand in front. Assumes nothing.
use mathlib.Core.Path.{sym, ap, ◌∙◌}
use mathlib.Core.List.{List}
use Rattle.std.specs.Prelude.{Err}
use lib.ListN.{length}
use Rattle.lists.specs.Lists.{lead}
use Rattle.lists.proofs.Leads.{lead_all}
use Rattle.host.specs.declared.Held.{Held}
use Rattle.host.specs.declared.Refusal.TheVariants.{Unsound}
use Rattle.host.specs.Answers.{says_tick}
use Rattle.host.specs.State.{held_of, before}
use Rattle.host.specs.Tick.{due, due_of, tick_tests, tick_checks}
use Rattle.host.proofs.Answered.{unsound_first, tick_said}
use Rattle.host.proofs.Facts.{sound_is}
use Rattle.host.proofs.Fronts.{due_before}
use Rattle.host.proofs.Numbers.{err_is, tick_refused}
use Rattle.service.specs.Memory.{host_from}
use Rattle.service.proofs.Flats.{held_in}
use Rattle.service.proofs.Sounds.{framed_is, unframed_is}
use Rattle.service.proofs.answers.tick_answer.Goals as goal

pub returns-in_err-frame : goal.returns-in_err-frame
unfolding tick_tests
returns-in_err-frame c =
    let a = c.args in
    let h = host_from a.memory.now in
    let bad = unframed_is h c.sound_frame.ensures c.in_err-frame.was in
    ap says_tick (err_is _ _ c.from_residual.ensures.1 ∙ ap Err bad.1) ∙ tick_refused Unsound _ _ (unsound_first h (tick_checks h a.u.0 a.room (length (due_of h a.u.0))) bad.0)

pub shared_ref_as_front-due_in_front : goal.shared_ref_as_front-due_in_front
shared_ref_as_front-due_in_front c = let h = host_from c.args.memory.now in (sound_is h (framed_is h c.sound_frame.ensures c.in_ok-frame.was).0).held

pub returns : goal.returns
returns c =
    let a = c.args in
    let f = a.memory.now in
    let h = host_from f in
    let good = framed_is h c.sound_frame.ensures c.in_ok-frame.was in
    let p = due f.bound a.u.0 in
    let all = lead_all before p (due_before f.bound a.u.0) (held_of h) (sound_is h good.0).rise in
    tick_said h a.u.0 a.room _ _ good.0 good.1 (c.due_in_front-count.ensures ∙ ap (λ (l : List Held). length (lead p l)) (sym (held_in f)) ∙ ap length all) c.tick_answer.ensures
