-- What the tick delivers goes to the log, which has room for it. Assumes nothing.
use mathlib.Core.Path.{sym, ap, ◌∙◌}
use Rattle.host.specs.Answers.{says_tick}
use Rattle.engine.proofs.Logs.{station_delivered}
use Rattle.engine.proofs.ticking.tick_one.Goals as goal

pub returns-in-Ok : goal.returns-in-Ok
returns-in-Ok c = let a = c.args in station_delivered a.station.now a.u c.requires _ (ap says_tick (sym c.in-Ok.is) ∙ c.tick.ensures.1.0) _ _ c.tick.ensures.0 c.more-station.ensures
