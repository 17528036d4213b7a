-- Played where reading accepts, and nothing where it does not. Assumes nothing.
use mathlib.Core.Path.{◌≡◌}
use borrow.Author.Rules.{rules}
use Rattle.std.specs.Prelude.{Err}
use Rattle.engine.proofs.Runs.{read_playable, ran, not_run}
use Rattle.engine.proofs.run.Goals as goal

pub returns-in_err-schedule : goal.returns-in_err-schedule
returns-in_err-schedule c =
    let e = c.in_err-schedule.ensures in
    let o = not_run c.args.bytes.now c.in_err-schedule.field-0.0 e.numbers in
    let same : c.from_residual.result ≡ Err c.in_err-schedule.field-0.0 = search rules in
    rw same (record { numbers = e.numbers; outcome = o.0; in_places = o.1 })

pub play_all-requires : goal.play_all-requires
play_all-requires c = let e = c.in_ok-schedule.ensures in read_playable c.args.bytes.now _ e.numbers e.schedule

pub returns : goal.returns
returns c =
    let e = c.in_ok-schedule.ensures in
    let o = ran c.args.bytes.now _ _ e.numbers e.schedule c.play_all.ensures in
    record { numbers = e.numbers; outcome = o.0; in_places = o.1 }
