-- What reading answers (01, "Refusal numbers"). Assumes nothing.
use Rattle.std.specs.Prelude.{Result, Ok, Err, Bool, cond, not, List, [], ◌∷◌, ◌++◌, ℕ, ltb, eqb, replicate}
use Rattle.lists.specs.Tests.{first_of}
use Rattle.network.specs.Network.{no_link, plan_tests, number}
use Rattle.schedule.specs.declared.Refusal.{Refusal}
use Rattle.schedule.specs.declared.Refusal.TheVariants.{NotASchedule, Plan, OutsideRules}
use Rattle.schedule.specs.declared.Schedule.{Schedule}
use Rattle.schedule.specs.Shape.{records, is_schedule}
use Rattle.schedule.specs.Schedule.{plan_of, schedule_of, no_start}
use Rattle.schedule.specs.Rules.{first_outside}

-- "is 31; then 1 to 3; then 32"
unfoldable pub read_tests : List ℕ → List (ℕ × Bool)
read_tests bs = (31, not (is_schedule bs)) ∷ (plan_tests (plan_of bs) ++ ((32, ltb (first_outside bs) (records bs)) ∷ []))

abbrev pub read_refusal : List ℕ → ℕ
read_refusal bs = first_of (read_tests bs)

-- "A refusal returns its number and zero elsewhere (32 also its index)"
abbrev pub answered : List ℕ → ℕ × ℕ
answered bs = (read_refusal bs, cond (eqb (read_refusal bs) 32) (first_outside bs) 0)

abbrev pub nothing : Schedule
nothing =
    record {
      plan = record { hosts = 0; faulty_hosts = 0; link_count = 0; faulty_links = 0; delay = 0; skew = 0; links = replicate 12 no_link };
      bounds = record { d = 0; first = record { bound = 0; window = 0 }; second = record { bound = 0; window = 0 } };
      faults = record { hosts = 0; links = 0 };
      offsets = replicate 8 0;
      end = record { 0 = 0 };
      start_count = 0;
      starts = replicate 16 no_start;
      delays = replicate 384 0;
    }

abbrev pub schedule_read : List ℕ → Schedule
schedule_read bs = cond (eqb (read_refusal bs) 0) (schedule_of bs) nothing

-- the paper's number and index for each refusal; planning's are its own
abbrev pub numbers : Refusal → ℕ × ℕ
numbers NotASchedule = (31, 0)
numbers (Plan r) = (number r, 0)
numbers (OutsideRules k) = (32, k)

-- those of what reading returns, "zero elsewhere"
abbrev pub says : {A : Type 0} → Result A Refusal → ℕ × ℕ
says (Ok x) = (0, 0)
says (Err r) = numbers r

-- and its schedule
abbrev pub found : Result Schedule Refusal → Schedule
found (Ok s) = s
found (Err r) = nothing
