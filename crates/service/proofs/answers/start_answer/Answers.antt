-- Memory that stands for no sound state is refused 9; else the host's own answer is taken, by the frame. Assumes nothing.
use mathlib.Core.Path.{ap, ◌∙◌}
use Rattle.std.specs.Prelude.{Err}
use Rattle.host.specs.declared.Refusal.TheVariants.{Unsound}
use Rattle.host.specs.Answers.{says}
use Rattle.host.specs.Start.{start_tests, start_checks}
use Rattle.host.proofs.Answered.{unsound_first, start_said}
use Rattle.host.proofs.Numbers.{err_is, says_refused}
use Rattle.service.specs.Memory.{host_from}
use Rattle.service.proofs.Sounds.{framed_is, unframed_is}
use Rattle.service.proofs.answers.start_answer.Goals as goal

pub returns-in_err-frame : goal.returns-in_err-frame
unfolding start_tests
returns-in_err-frame c =
    let a = c.args in
    let h = host_from a.memory.now in
    let bad = unframed_is h c.sound_frame.ensures c.in_err-frame.was in
    ap says (err_is _ _ c.from_residual.ensures.1 ∙ ap Err bad.1) ∙ says_refused Unsound _ _ _ (unsound_first h (start_checks h a.u.0 a.order) bad.0)

pub returns : goal.returns
returns c =
    let a = c.args in
    let h = host_from a.memory.now in
    let good = framed_is h c.sound_frame.ensures c.in_ok-frame.was in
    start_said h a.u.0 a.order _ good.0 good.1 c.start_answer.ensures
