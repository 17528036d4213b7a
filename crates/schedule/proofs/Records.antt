-- What each record of an accepted schedule keeps: its tag by its place, the shape that its tag asks, and its rule. Assumes nothing.
use mathlib.Core.Path.{◌≡◌, refl, ◌∙◌}
use mathlib.Core.Bool.{true, false, cond}
use mathlib.Core.List.{List}
use Prim.Native.Nat.{ℕ, ◌+◌, ◌-◌, ◌≤◌, ◌<◌}
use native.Mathlib.Omega.{arith}
use borrow.Author.Tests.{not-false, eqb-true, ltb-false, eq-eqb, ne_eqb, lt-ltb, le-ltb, lt-leb}
use lib.Dec.{ltb, eqb}
use Rattle.lists.proofs.Bools.{and_left_lem, and_right}
use Rattle.lists.proofs.TestLaws.{none_pass, pass_none}
use Rattle.lists.proofs.SearchLaws.{each_true, before_least}
use Rattle.fields.specs.Fields.{stated_at}
use Rattle.network.specs.Network.{plan_tests, plan_refusal}
use Rattle.schedule.specs.Shape.{place, records, links, starts, tag, tag_among, fits_at, start_fits, fate_fits, right_at, right, is_schedule}
use Rattle.schedule.specs.Schedule.{plan_of, faults_of, end_of, first_start, first_fate}
use Rattle.schedule.specs.Rules.{faults_within, offsets_out, start_out, fate_out, out_at, outside, first_outside}
use Rattle.schedule.specs.Calls.{read_tests, read_refusal}
use Rattle.schedule.proofs.Tallies.{Shape, shape}

-- ---- the tag of a record by its place, among l links and s starts

-- past the links
among_past : (l s k : ℕ) → l < k
    → tag_among l s k ≡ cond (eqb k (l + 1)) 18 (cond (eqb k (l + 2)) 19 (cond (eqb k (l + 3)) 20 (cond (ltb k (l + s + 4)) 21 22)))
among_past l s k h = rw (ne_eqb k 0 (omega arith), lt-leb k l h)

among_18 : (l s : ℕ) → tag_among l s (l + 1) ≡ 18
among_18 l s = among_past l s (l + 1) (omega arith) ∙ (rw (eq-eqb (l + 1) (l + 1) refl))

among_19 : (l s : ℕ) → tag_among l s (l + 2) ≡ 19
among_19 l s = among_past l s (l + 2) (omega arith) ∙ (rw (ne_eqb (l + 2) (l + 1) (omega arith), eq-eqb (l + 2) (l + 2) refl))

among_20 : (l s : ℕ) → tag_among l s (l + 3) ≡ 20
among_20 l s =
    among_past l s (l + 3) (omega arith)
    ∙ (rw (ne_eqb (l + 3) (l + 1) (omega arith), ne_eqb (l + 3) (l + 2) (omega arith), eq-eqb (l + 3) (l + 3) refl))

module _ (l s i : ℕ) where
  among_later : (k : ℕ) → l + 4 ≤ k → tag_among l s k ≡ cond (ltb k (l + s + 4)) 21 22
  among_later k h = among_past l s k (omega arith) ∙ (rw (ne_eqb k (l + 1) (omega arith), ne_eqb k (l + 2) (omega arith), ne_eqb k (l + 3) (omega arith)))

  among_21 : i < s → tag_among l s (l + 4 + i) ≡ 21
  among_21 h = among_later (l + 4 + i) (omega arith) ∙ (rw (lt-ltb (l + 4 + i) (l + s + 4) (omega arith)))

  among_22 : tag_among l s (l + s + 4 + i) ≡ 22
  among_22 = among_later (l + s + 4 + i) (omega arith) ∙ (rw (le-ltb (l + s + 4 + i) (l + s + 4) (omega arith)))

-- ---- what was found of the whole

module _ (bs : List ℕ) where
  module _ (accepted : read_refusal bs ≡ 0) where
    pub sound_shape : Shape bs
    unfolding read_tests plan_tests
    sound_shape = shape bs (not-false (is_schedule bs) (none_pass (read_tests bs) refl accepted).0)

    pub plan_clear : plan_refusal (plan_of bs) ≡ 0
    unfolding read_tests plan_tests
    plan_clear = let a = none_pass (read_tests bs) refl accepted in pass_none (plan_tests (plan_of bs)) (a.1.0, (a.1.1.0, (a.1.1.1.0, tt)))

    module _ (k : ℕ) (there : k < records bs) where
      inside : outside (plan_of bs) (faults_of bs) (end_of bs) bs k ≡ false
      unfolding read_tests plan_tests
      inside =
          let a = none_pass (read_tests bs) refl accepted in
          let all : records bs ≤ first_outside bs = ltb-false (first_outside bs) (records bs) a.1.1.1.1.0 in
          before_least (records bs) (outside (plan_of bs) (faults_of bs) (end_of bs) bs) k (omega arith)

      is_right : right bs k ≡ true
      is_right = each_true (right bs) (records bs) sound_shape.rights k there

      tag_is : tag bs k ≡ tag_among (links bs) (starts bs) k
      unfolding right_at
      tag_is = eqb-true (tag bs k) (tag_among (links bs) (starts bs) k) (and_left_lem _ (fits_at bs (links bs) (starts bs) (place bs k)) is_right)

      fits : fits_at bs (links bs) (starts bs) (place bs k) ≡ true
      unfolding right_at
      fits = and_right (eqb (tag bs k) (tag_among (links bs) (starts bs) k)) _ is_right

    -- ---- the records one by one

    pub faults_in : faults_within (plan_of bs) (faults_of bs) ≡ true
    unfolding out_at
    faults_in =
        let h : links bs + 1 < records bs = omega (arith, sound_shape.enough) in
        let t : tag bs (links bs + 1) ≡ 18 = tag_is (links bs + 1) h ∙ among_18 (links bs) (starts bs) in
        not-false _ (rw t at (inside (links bs + 1) h))

    pub offsets_in : offsets_out (plan_of bs) bs (place bs (links bs + 2) + 3) ≡ false
    unfolding out_at
    offsets_in =
        let h : links bs + 2 < records bs = omega (arith, sound_shape.enough) in
        let t : tag bs (links bs + 2) ≡ 19 = tag_is (links bs + 2) h ∙ among_19 (links bs) (starts bs) in
        rw t at (inside (links bs + 2) h)

    pub end_in : (end_of bs).0 ≤ 4096
    unfolding out_at
    end_in =
        let h : links bs + 3 < records bs = omega (arith, sound_shape.enough) in
        let t : tag bs (links bs + 3) ≡ 20 = tag_is (links bs + 3) h ∙ among_20 (links bs) (starts bs) in
        ltb-false 4096 (end_of bs).0 (rw t at (inside (links bs + 3) h))

    module _ (i : ℕ) (few : i < starts bs) where
      start_there : first_start bs + i < records bs
      start_there = omega (arith, sound_shape.enough)

      pub start_tag : tag bs (first_start bs + i) ≡ 21
      start_tag = tag_is (first_start bs + i) start_there ∙ among_21 (links bs) (starts bs) i few

      pub start_fits_lem : start_fits bs (place bs (first_start bs + i) + 3) (stated_at bs (place bs (first_start bs + i))) ≡ true
      unfolding fits_at
      start_fits_lem = rw start_tag at (fits (first_start bs + i) start_there)

      pub start_in : start_out (end_of bs) bs (place bs (first_start bs + i - 1)) (place bs (first_start bs + i)) ≡ false
      unfolding out_at
      start_in = rw start_tag at (inside (first_start bs + i) start_there)

    module _ (i : ℕ) (there : first_fate bs + i < records bs) where
      fate_tag : tag bs (first_fate bs + i) ≡ 22
      fate_tag = tag_is (first_fate bs + i) there ∙ among_22 (links bs) (starts bs) i

      pub fate_fits_lem : fate_fits bs (links bs) (starts bs) (place bs (first_fate bs + i) + 3) (stated_at bs (place bs (first_fate bs + i))) ≡ true
      unfolding fits_at
      fate_fits_lem = rw fate_tag at (fits (first_fate bs + i) there)

      pub fate_in : fate_out (plan_of bs) (faults_of bs) bs (place bs (first_fate bs + i - 1)) (place bs (first_fate bs + i)) ≡ false
      unfolding out_at
      fate_in = rw fate_tag at (inside (first_fate bs + i) there)
