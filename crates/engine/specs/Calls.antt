-- What a run from bytes answers. Assumes nothing.
use Rattle.std.specs.Prelude.{Result, Ok, Err, cond, List, [], ℕ, eqb, replicate}
use Rattle.schedule.specs.Schedule.{schedule_of}
use Rattle.schedule.specs.Calls.{read_refusal}
use Rattle.schedule.specs.declared.Refusal.{Refusal}
use Rattle.engine.specs.declared.Outcome.{Outcome}
use Rattle.engine.specs.Parts.{log_of}
use Rattle.engine.specs.Run.{outcome}

-- "A refusal returns its number and zero elsewhere"
abbrev pub no_outcome : Outcome
no_outcome = record { bound = 0; hosts = 0; starts = 0; refusals = replicate 16 0; logs = replicate 8 (log_of []); copies = 0 }

abbrev pub outcome_of : List ℕ → Outcome
outcome_of bs = cond (eqb (read_refusal bs) 0) (outcome (schedule_of bs)) no_outcome

-- the outcome of what a run returns, "zero elsewhere"
abbrev pub outcome_in : Result Outcome Refusal → Outcome
outcome_in (Ok o) = o
outcome_in (Err r) = no_outcome
