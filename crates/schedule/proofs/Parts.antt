-- The offsets, starts and delays of a schedule that reading accepts. Assumes nothing.
use mathlib.Core.Path.{◌≡◌, sym, ap, ◌∙◌}
use mathlib.Core.Bool.{true, false, and-true}
use mathlib.Core.List.{List}
use native.Mathlib.Nat.{le_refl, le_trans}
use native.Mathlib.Decide.{dec_le}
use Prim.Native.Nat.{ℕ, zero, suc, ◌+◌, ◌-◌, ◌≤◌, ◌<◌}
use native.Mathlib.Omega.{arith}
use borrow.Author.Tests.{not-true, ltb-true, ltb-false, leb-true, leb-false, eqb-true, eqb-false}
use lib.Dec.{leb, eqb}
use lib.ListN.{length, take, get_or, get_or-eq_default}
use Rattle.lists.proofs.Bools.{false_unless}
use Rattle.lists.specs.Bytes.{val_at}
use Rattle.lists.specs.Lists.{pad, listed}
use Rattle.lists.proofs.Places.{get_or_pad, length_pad, take_pad}
use Rattle.lists.proofs.Listing.{length_listed, get_or_listed}
use Rattle.lists.proofs.SearchLaws.{some_false, last_of_is}
use Rattle.lists.proofs.TestLaws.{all_each, none_each}
use Rattle.orders.specs.Orders.{share_fits, wrong_value}
use Rattle.orders.proofs.Laws.{of_fits, right_kind}
use Rattle.network.specs.Network.{δ, survives, FaultSet}
use Rattle.network.specs.declared.Plan.{Plan}
use Rattle.network.specs.declared.Faults.{Faults}
use Rattle.network.proofs.Answers.{fine}
use Rattle.network.proofs.Ranges.{Ranges, ranges}
use Rattle.schedule.specs.declared.Start.{Start}
use Rattle.schedule.specs.Shape.{place, records, links, starts, hosts, value}
use Rattle.schedule.specs.Schedule.{plan_of, faults_of, end_of, offsets_at, start_at, starts_of, no_start, copy_of, copy_at, delay_of, delays_of, first_start, first_fate}
use Rattle.schedule.specs.Rules.{faults_within}
use Rattle.schedule.specs.Calls.{read_refusal}
use Rattle.schedule.proofs.Records.{sound_shape, plan_clear, offsets_in, start_tag, start_fits_lem, start_in, fate_fits_lem, fate_in}

pub fault_set : (p : Plan) (f : Faults) → faults_within p f ≡ true → FaultSet p f
unfolding faults_within
fault_set p f e =
    let t = all_each _ e in
    record { hosts = ltb-true _ _ t.0; links = ltb-true _ _ t.1.0; few_hosts = leb-true _ _ t.1.1.0; few_links = leb-true _ _ t.1.1.1.0 }

pub copy_in : (k l b : ℕ) → k < 16 → l < 12 → b < 2 → copy_of k l b < 384
copy_in k l b x y z = omega arith

-- an array of N places, the first c of them filled
module _ {A : Type 0} (N c : ℕ) (z : A) (f : ℕ → A) where
  pub filled_long : c ≤ N → length (pad N z (listed c f)) ≡ N
  filled_long h = length_pad N z (listed c f) (rw length_listed h)

  pub unfilled_at : (i : ℕ) → c ≤ i → get_or (pad N z (listed c f)) i z ≡ z
  unfilled_at i h = get_or_pad N z (listed c f) i ∙ get_or-eq_default (listed c f) z (rw length_listed h)

  pub filled_first : take c (pad N z (listed c f)) ≡ listed c f
  filled_first = ap (λ (k : ℕ). take k (pad N z (listed c f))) (sym (length_listed c f)) ∙ take_pad N z (listed c f)

  pub filled_at : (i : ℕ) → i < c → get_or (pad N z (listed c f)) i z ≡ f i
  filled_at i h = get_or_pad N z (listed c f) i ∙ get_or_listed c f i z h

module _ (bs : List ℕ) where
  -- start i, the number of fates, the delay of fate i, and that of a copy by all of them
  abbrev pub nth : ℕ → Start
  nth i = start_at bs (value bs (first_start bs + i))

  abbrev pub fates : ℕ
  fates = records bs - first_fate bs

  abbrev pub fated : ℕ → ℕ
  fated copy = get_or (delays_of bs (first_fate bs) fates) copy 0

  abbrev late : ℕ → ℕ
  late i = get_or bs (place bs (first_fate bs + i) + 6) 0

  module _ (accepted : read_refusal bs ≡ 0) where
    pub in_ranges : Ranges (plan_of bs)
    in_ranges = ranges (plan_of bs) (fine (plan_of bs) (plan_clear bs accepted)).ranges

    pub offset_at : (i : ℕ) → i < hosts bs → get_or (offsets_at bs (value bs (links bs + 2)) (hosts bs)) i 0 < get_or bs 7 0
    unfolding plan_of
    offset_at i h =
        let f : ℕ → ℕ = λ i. get_or bs (value bs (links bs + 2) + i) 0 in
        rw (filled_at 8 (hosts bs) 0 f i h) (leb-false (get_or bs 7 0) (f i) (some_false (λ i. leb (get_or bs 7 0) (f i)) (hosts bs) (offsets_in bs accepted) i h))

    -- ---- the starts

    pub start_is : (i : ℕ) → i < starts bs → get_or (starts_of bs (first_start bs) (starts bs)) i no_start ≡ nth i
    start_is i h = filled_at 16 (starts bs) no_start nth i h

    pub nth_by_end : (i : ℕ) → i < starts bs → (nth i).tick.0 ≤ (end_of bs).0
    nth_by_end i h = ltb-false (end_of bs).0 (nth i).tick.0 (none_each _ (start_in bs accepted i h)).0

    pub nth_host : (i : ℕ) → i < starts bs → (nth i).host < hosts bs
    nth_host i h = ltb-true (nth i).host (hosts bs) (all_each _ (start_fits_lem bs accepted i h)).0

    pub nth_share : (i : ℕ) → i < starts bs → share_fits (nth i).order ≡ true
    nth_share i h =
        let at = value bs (first_start bs + i) in
        let share : at + 8 ≡ at + 3 + 5 = omega arith in
        let fit = all_each _ (start_fits_lem bs accepted i h) in
        let w = not-true (wrong_value (get_or bs (at + 3) 0) (get_or bs (at + 3 + 5) 0)) (rw share at fit.1.1.0) in
        of_fits (get_or bs (at + 3) 0) (right_kind (get_or bs (at + 3) 0) (get_or bs (at + 3 + 5) 0) w) (val_at bs (at + 3 + 1) 4) (get_or bs (at + 3 + 5) 0) w

    nth_next : (i : ℕ) → suc i < starts bs → (nth i).tick.0 ≤ (nth (suc i)).tick.0
    nth_next i h =
        let k : first_start bs + suc i - 1 ≡ first_start bs + i = omega arith in
        let t = rw k at (none_each _ (start_in bs accepted (suc i) h)).1.0 in
        ltb-false (nth (suc i)).tick.0 (nth i).tick.0 (rw (start_tag bs accepted i (omega arith)) at t)

    pub nth_in_turn : (j k : ℕ) → j ≤ k → k < starts bs → (nth j).tick.0 ≤ (nth k).tick.0
    nth_in_turn j zero e h = let z : j ≡ 0 = omega arith in rw z (le_refl _)
    nth_in_turn j (suc k) e h = go (dec_le j k) (λ e. nth_in_turn j k e (omega arith))
      where
        go : Dec (j ≤ k) → (j ≤ k → (nth j).tick.0 ≤ (nth k).tick.0) → (nth j).tick.0 ≤ (nth (suc k)).tick.0
        go (yes q) r = le_trans (r q) (nth_next k h)
        go (no q) r = let z : j ≡ suc k = omega arith in rw z (le_refl _)

    -- ---- the delays

    fate_there : (i : ℕ) → i < fates → first_fate bs + i < records bs
    fate_there i h = omega arith

    -- what holds of 1 tick, and of each fate of a copy, holds of its delay
    by_fate : (P : ℕ → Type 0) (copy : ℕ) → copy < 384 → P 1 → ((i : ℕ) → i < fates → copy_at bs (value bs (first_fate bs + i)) ≡ copy → P (late i)) → P (fated copy)
    by_fate P copy c one each =
        rw (get_or_listed 384 (delay_of bs (first_fate bs) fates) copy 0 c)
        (last_of_is (λ i. eqb (copy_at bs (value bs (first_fate bs + i))) copy) late 1 P fates one (λ i h e. each i h (eqb-true _ copy e)))

    pub fated_high : (copy : ℕ) → copy < 384 → fated copy ≤ δ (plan_of bs)
    fated_high copy c =
        by_fate (λ d. d ≤ δ (plan_of bs)) copy c in_ranges.delay_low
        (λ i h e. let t = none_each _ (fate_in bs accepted i (fate_there i h)) in let u = t.0 in omega (arith, ltb-false))

    pub fated_lost : (k l b : ℕ) → k < 16 → l < 12 → b < 2 → fated (copy_of k l b) ≡ 0 → survives (plan_of bs) (faults_of bs) l ≡ false
    fated_lost k l b x y z =
        by_fate (λ d. d ≡ 0 → survives (plan_of bs) (faults_of bs) l ≡ false) (copy_of k l b) (copy_in k l b x y z) (λ e. let none : ⊥ = omega arith in absurd none)
        (λ i h e w.
        let at = value bs (first_fate bs + i) in
        let f = all_each _ (fate_fits_lem bs accepted i (fate_there i h)) in
        let low : get_or bs (at + 1) 0 < links bs = ltb-true _ _ f.1.1.0 in
        let way : get_or bs (at + 2) 0 ≤ 1 = leb-true _ _ f.1.1.1.0 in
        let on : at + 1 ≡ place bs (first_fate bs + i) + 4 = omega arith in
        let same : get_or bs (at + 1) 0 ≡ l = omega (arith, (sound_shape bs accepted).few_links) in
        let t = none_each _ (fate_in bs accepted i (fate_there i h)) in
        false_unless _ (λ s. let u = rw (← on, same, s, and-true) at t.1.0 in omega (arith, eqb-false)))
