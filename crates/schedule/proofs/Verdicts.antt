-- What each test makes reading answer, in the order of check. Assumes nothing.
use mathlib.Core.Path.{◌≡◌, refl, sym, ap, ◌∙◌}
use mathlib.Core.Bool.{Bool, true, false, cond}
use mathlib.Core.List.{List, [], ◌∷◌, ◌++◌}
use Prim.Native.Nat.{ℕ, ◌≤◌, ◌<◌}
use native.Mathlib.Omega.{arith}
use borrow.Author.Tests.{eq-eqb, eqb-true, eqb-false, lt-ltb, le-ltb, lt-leb}
use lib.Dec.{eqb, ltb}
use lib.ListN.{length}
use Rattle.std.specs.Prelude.{Result, Ok, Err}
use Rattle.lists.specs.Searches.{least}
use Rattle.lists.specs.Tests.{all_of, first_of}
use Rattle.lists.proofs.TestLaws.{first_of_left, first_of_right}
use Rattle.network.specs.Network.{worst, bounds, plan_tests, plan_refusal, planned, Said, refused, number, says as said}
use Rattle.network.specs.declared.Plan.{Plan}
use Rattle.network.specs.declared.Bounds.{Bounds}
use Rattle.network.specs.declared.PlanRefusal.{PlanRefusal}
use Rattle.network.specs.declared.PlanRefusal.TheVariants.{OutOfRange, BadLink, Parted}
use Rattle.schedule.specs.declared.Refusal.{Refusal}
use Rattle.schedule.specs.declared.Refusal.TheVariants.{NotASchedule, Plan as Unplanned, OutsideRules}
use Rattle.schedule.specs.declared.Schedule.{Schedule}
use Rattle.schedule.specs.Shape.{records, is_schedule}
use Rattle.schedule.specs.Schedule.{plan_of, schedule_of}
use Rattle.schedule.specs.Rules.{outside, first_outside}
use Rattle.schedule.specs.Inside.{Judged}
use Rattle.schedule.specs.Calls.{read_tests, read_refusal, answered, schedule_read, numbers, says, found}

-- ---- what planning said

pub said_refusal : (p : Plan) → (planned p).refusal ≡ plan_refusal p
said_refusal p = go (eqb (plan_refusal p) 0) refl
  where
    go : (t : Bool) → eqb (plan_refusal p) 0 ≡ t → (cond t (record { refusal = 0; bounds = bounds p (worst p) }) (refused (plan_refusal p))).refusal ≡ plan_refusal p
    go true e = sym (eqb-true (plan_refusal p) 0 e)
    go false e = refl

pub said_bounds : (p : Plan) → plan_refusal p ≡ 0 → (planned p).bounds ≡ bounds p (worst p)
said_bounds p e = rw (eq-eqb (plan_refusal p) 0 e)

-- planning's refusal is none of 0 and 32
pub number_some : (r : PlanRefusal) → eqb (number r) 0 ≡ false
number_some OutOfRange = refl
number_some BadLink = refl
number_some Parted = refl

pub number_few : (r : PlanRefusal) → eqb (number r) 32 ≡ false
number_few OutOfRange = refl
number_few BadLink = refl
number_few Parted = refl

pub unplanned : (p q : Plan) (r : PlanRefusal) → p ≡ q → said (Err r) ≡ planned p → number r ≡ plan_refusal q
unplanned p q r e w = ap (λ (s : Said). s.refusal) w ∙ said_refusal p ∙ ap plan_refusal e

pub judged : (bs : List ℕ) (p : Plan) (b : Bounds) → p ≡ plan_of bs → said (Ok b) ≡ planned p → Judged bs p b
judged bs p b e w =
    let c : plan_refusal p ≡ 0 = sym (said_refusal p) ∙ sym (ap (λ (s : Said). s.refusal) w) in
    record { plan_is = e; clear = c; bounds_are = ap (λ (s : Said). s.bounds) w ∙ said_bounds p c }

-- the rules are asked of the schedule's own parts
pub first_is : (bs : List ℕ) (p : Plan) (s : Schedule) (n k : ℕ) → n ≡ records bs → p ≡ plan_of bs → s ≡ schedule_of bs
    → k ≡ least n (outside p s.faults s.end bs) → k ≡ first_outside bs
unfolding schedule_of
first_is bs p s n k m j e q = rw (e, j, m) at q

pub too_long : (bs : List ℕ) → 8192 < length bs → is_schedule bs ≡ false
unfolding is_schedule all_of
too_long bs h = rw (lt-leb (length bs) 8192 h)

module _ (bs : List ℕ) where
  -- what reading must answer
  abbrev pub Right : Result Schedule Refusal → Type 0
  Right r = (says r ≡ answered bs) × (found r ≡ schedule_read bs)

  -- a refusal, and nothing else
  right_refused : (r : Refusal) → numbers r ≡ answered bs → eqb (read_refusal bs) 0 ≡ false → Right (Err r)
  right_refused r g z = (g, (rw z))

  misshapen : is_schedule bs ≡ false → read_refusal bs ≡ 31
  unfolding read_tests
  misshapen s = rw s

  pub right_misshapen : is_schedule bs ≡ false → Right (Err NotASchedule)
  right_misshapen s = let m = misshapen s in right_refused NotASchedule (rw m) (rw m)

  module _ (s : is_schedule bs ≡ true) where
    past_shape : read_refusal bs ≡ first_of (plan_tests (plan_of bs) ++ ((32, ltb (first_outside bs) (records bs)) ∷ []))
    unfolding read_tests
    past_shape = rw s

    -- 1 to 3
    pub right_unplanned : (r : PlanRefusal) → number r ≡ plan_refusal (plan_of bs) → Right (Err (Unplanned r))
    right_unplanned r q =
        let f : read_refusal bs ≡ number r =
        past_shape
        ∙ first_of_left (plan_tests (plan_of bs)) ((32, ltb (first_outside bs) (records bs)) ∷ []) (λ w. eqb-false _ 0 (number_some r) (q ∙ w))
        ∙ sym q in
        right_refused (Unplanned r) (rw (f, number_few r)) (rw (f, number_some r))

    module _ (clear : plan_refusal (plan_of bs) ≡ 0) where
      past_plan : read_refusal bs ≡ cond (ltb (first_outside bs) (records bs)) 32 0
      unfolding plan_tests
      past_plan = past_shape ∙ first_of_right (plan_tests (plan_of bs)) ((32, ltb (first_outside bs) (records bs)) ∷ []) refl clear

      -- 32 with its index
      pub right_outside : (k : ℕ) → k ≡ first_outside bs → k < records bs → Right (Err (OutsideRules k))
      right_outside k q h =
          let f : read_refusal bs ≡ 32 = past_plan ∙ (rw (lt-ltb (first_outside bs) (records bs) (omega arith))) in
          right_refused (OutsideRules k) (rw (f, ← q)) (rw f)

      pub right_accepted : (s : Schedule) → s ≡ schedule_of bs → records bs ≤ first_outside bs → Right (Ok s)
      right_accepted s q h =
          let f : read_refusal bs ≡ 0 = past_plan ∙ (rw (le-ltb (first_outside bs) (records bs) h)) in
          (rw f, q ∙ (rw f))
