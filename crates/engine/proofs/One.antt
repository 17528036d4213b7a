-- The promise of `run` admits one result only: its two facts name the refusal, or the outcome. Assumes nothing.
use mathlib.Core.Path.{◌≡◌, sym, ap, ◌∙◌}
use mathlib.Core.Bool.{Bool, cond, false≢true}
use mathlib.Core.List.{List}
use Prim.Native.Nat.{ℕ}
use lib.Dec.{eqb}
use Rattle.std.specs.Prelude.{Result, Ok, Err}
use Rattle.lists.proofs.One.{one_result}
use Rattle.schedule.specs.declared.Refusal.{Refusal}
use Rattle.schedule.specs.declared.Schedule.{Schedule}
use Rattle.schedule.specs.Schedule.{schedule_of}
use Rattle.schedule.specs.Calls.{says, answered, numbers, nothing, schedule_read}
use Rattle.schedule.proofs.One.{read_one}
use Rattle.engine.specs.declared.Outcome.{Outcome}
use Rattle.engine.specs.Calls.{outcome_in, outcome_of}
use Rattle.engine.proofs.Runs.{some_number, refused}

abbrev Right : List ℕ → Result Outcome Refusal → Type 0
Right bs r = (says r ≡ answered bs) × (outcome_in r ≡ outcome_of bs)

-- no refusal has the numbers of a run
apart : (bs : List ℕ) (r : Refusal) → (0, 0) ≡ answered bs → numbers r ≡ answered bs → ⊥
apart bs r e h = false≢true (sym (some_number r) ∙ ap (λ (n : ℕ × ℕ). eqb n.0 0) (h ∙ sym e))

-- and two with the same are one, as reading's promise admits one
same_refusal : (bs : List ℕ) (r s : Refusal) → numbers r ≡ answered bs → numbers s ≡ answered bs → r ≡ s
same_refusal bs r s e h =
    let none : nothing ≡ schedule_read bs = sym (ap (λ (b : Bool). cond b (schedule_of bs) nothing) (refused bs r e)) in
    let one : ◌≡◌ {A = Result Schedule Refusal} (Err r) (Err s) = read_one bs (Err r) (Err s) (e, none) (h, none) in
    cc one

pub run_one : (bs : List ℕ) (r s : Result Outcome Refusal) → Right bs r → Right bs s → r ≡ s
run_one bs (Ok o) (Ok p) x y = ap Ok (one_result x.1 y.1)
run_one bs (Ok o) (Err s) x y = absurd (apart bs s x.0 y.0)
run_one bs (Err r) (Ok p) x y = absurd (apart bs r y.0 x.0)
run_one bs (Err r) (Err s) x y = ap Err (same_refusal bs r s x.0 y.0)
