-- Each check before the last ones did not refuse, so its test failed. Assumes nothing.
use mathlib.Core.Path.{ap, ◌∙◌}
use Rattle.std.specs.Prelude.{Err}
use Rattle.host.specs.Answers.{refusal_of}
use Rattle.host.proofs.Numbers.{passed, failed, err_is, said}
use Rattle.host.proofs.receiving.receive_checks.Goals as goal

pub returns : goal.returns
returns c =
    let p1 = passed _ _ _ c.refuse_if.ensures c.in_ok-refuse_if.was in
    let p2 = passed _ _ _ c.refuse_if-2.ensures c.in_ok-refuse_if-2.was in
    let p3 = passed _ _ _ c.refuse_if-3.ensures c.in_ok-refuse_if-3.was in
    let p4 = passed _ _ _ c.refuse_if-4.ensures c.in_ok-refuse_if-4.was in
    let p5 = passed _ _ _ c.refuse_if-5.ensures c.in_ok-refuse_if-5.was in
    let p6 = passed _ _ _ c.refuse_if-6.ensures c.in_ok-refuse_if-6.was in
    let p7 = passed _ _ _ c.refuse_if-7.ensures c.in_ok-refuse_if-7.was in
    let p8 = passed _ _ _ c.refuse_if-8.ensures c.in_ok-refuse_if-8.was in
    let p9 = passed _ _ _ c.refuse_if-9.ensures c.in_ok-refuse_if-9.was in
    let p10 = passed _ _ _ c.refuse_if-10.ensures c.in_ok-refuse_if-10.was in
    rw (← c.is_in_plan.ensures, p1, ← c.is_fit_copy.ensures, p2, ← c.is_reading.ensures, p3, p4, ← c.is_early.ensures, p5, ← c.is_late.ensures, p6, ← c.is_due.ensures, p7, p8, p9, p10)
    (said _ _ _ c.refuse_if-11.ensures)

pub returns-in_err-refuse_if-10 : goal.returns-in_err-refuse_if-10
returns-in_err-refuse_if-10 c =
    let p1 = passed _ _ _ c.refuse_if.ensures c.in_ok-refuse_if.was in
    let p2 = passed _ _ _ c.refuse_if-2.ensures c.in_ok-refuse_if-2.was in
    let p3 = passed _ _ _ c.refuse_if-3.ensures c.in_ok-refuse_if-3.was in
    let p4 = passed _ _ _ c.refuse_if-4.ensures c.in_ok-refuse_if-4.was in
    let p5 = passed _ _ _ c.refuse_if-5.ensures c.in_ok-refuse_if-5.was in
    let p6 = passed _ _ _ c.refuse_if-6.ensures c.in_ok-refuse_if-6.was in
    let p7 = passed _ _ _ c.refuse_if-7.ensures c.in_ok-refuse_if-7.was in
    let p8 = passed _ _ _ c.refuse_if-8.ensures c.in_ok-refuse_if-8.was in
    let p9 = passed _ _ _ c.refuse_if-9.ensures c.in_ok-refuse_if-9.was in
    let f = failed _ _ _ _ c.refuse_if-10.ensures c.in_err-refuse_if-10.was in
    rw (← c.is_in_plan.ensures, p1, ← c.is_fit_copy.ensures, p2, ← c.is_reading.ensures, p3, p4, ← c.is_early.ensures, p5, ← c.is_late.ensures, p6, ← c.is_due.ensures, p7, p8, p9, f.0)
    (ap refusal_of (err_is _ _ c.from_residual-in_err-refuse_if-10.ensures.1 ∙ ap Err f.1))
