-- The promise of `read` admits one result only: its two facts name the refusal, or the schedule. Assumes nothing.
use mathlib.Core.Path.{◌≡◌, refl, sym, ap, ◌∙◌}
use mathlib.Core.Bool.{cond}
use mathlib.Core.List.{List}
use Prim.Native.Nat.{ℕ}
use lib.Dec.{eqb}
use Rattle.std.specs.Prelude.{Result, Ok, Err, Option, Some, None}
use Rattle.lists.proofs.One.{one_result}
use Rattle.network.specs.declared.PlanRefusal.{PlanRefusal}
use Rattle.network.specs.declared.PlanRefusal.TheVariants.{OutOfRange, BadLink, Parted}
use Rattle.schedule.specs.declared.Refusal.{Refusal}
use Rattle.schedule.specs.declared.Refusal.TheVariants.{NotASchedule, Plan, OutsideRules}
use Rattle.schedule.specs.declared.Schedule.{Schedule}
use Rattle.schedule.specs.Calls.{nothing, numbers, says, found}
use Rattle.schedule.proofs.Verdicts.{Right}

-- what reading returned, by its numbers and its schedule
unfoldable answer_of : ℕ × ℕ → Schedule → Result Schedule Refusal
answer_of n s =
    cond (eqb n.0 0) (Ok s)
    (cond (eqb n.0 31) (Err NotASchedule)
    (cond (eqb n.0 1) (Err (Plan OutOfRange))
    (cond (eqb n.0 2) (Err (Plan BadLink)) (cond (eqb n.0 3) (Err (Plan Parted)) (Err (OutsideRules n.1))))))

answer_back : (r : Result Schedule Refusal) → answer_of (says r) (found r) ≡ r
unfolding answer_of
answer_back (Ok s) = refl
answer_back (Err NotASchedule) = refl
answer_back (Err (Plan OutOfRange)) = refl
answer_back (Err (Plan BadLink)) = refl
answer_back (Err (Plan Parted)) = refl
answer_back (Err (OutsideRules k)) = refl

-- the refusal; none of an accepted schedule
abbrev pub refused_by : Result Schedule Refusal → Option Refusal
refused_by (Ok s) = None
refused_by (Err r) = Some r

unfoldable refusal_of : ℕ × ℕ → Option Refusal
refusal_of n = refused_by (answer_of n nothing)

refusal_back : (r : Result Schedule Refusal) → refusal_of (says r) ≡ refused_by r
unfolding refusal_of answer_of
refusal_back (Ok s) = refl
refusal_back (Err NotASchedule) = refl
refusal_back (Err (Plan OutOfRange)) = refl
refusal_back (Err (Plan BadLink)) = refl
refusal_back (Err (Plan Parted)) = refl
refusal_back (Err (OutsideRules k)) = refl

-- the numbers alone tell which refusal it is, if any
pub one_answered : {numbers : ℕ × ℕ} (r s : Result Schedule Refusal) → says r ≡ numbers → says s ≡ numbers → refused_by r ≡ refused_by s
one_answered r s x y = sym (refusal_back r) ∙ ap refusal_of (one_result x y) ∙ refusal_back s

pub read_one : (bs : List ℕ) (r s : Result Schedule Refusal) → Right bs r → Right bs s → r ≡ s
read_one bs r s x y =
    sym (answer_back r)
    ∙ ap (λ n. answer_of n (found r)) (one_result x.0 y.0)
    ∙ ap (answer_of (says s)) (one_result x.1 y.1)
    ∙ answer_back s

pub refusal_number_one : (a : Refusal) (m n : ℕ) → m ≡ (numbers a).0 → n ≡ (numbers a).0 → m ≡ n
refusal_number_one a m n = one_result

pub number_of_one : {A : Type 0} (a : Result A Refusal) (m n : ℕ) → m ≡ (says a).0 → n ≡ (says a).0 → m ≡ n
number_of_one a m n = one_result

pub index_of_one : {A : Type 0} (a : Result A Refusal) (m n : ℕ) → m ≡ (says a).1 → n ≡ (says a).1 → m ≡ n
index_of_one a m n = one_result

pub found_one : (a : Result Schedule Refusal) (r s : Schedule) → r ≡ found a → s ≡ found a → r ≡ s
found_one a r s = one_result

pub from_one : (p : PlanRefusal) (r s : Refusal) → r ≡ Plan p → s ≡ Plan p → r ≡ s
from_one p r s = one_result
