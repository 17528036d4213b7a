-- Walking from record to record: where the next one begins, that each begins within the bytes, and when all have been met. Assumes nothing.
use mathlib.Core.Path.{◌≡◌, refl, sym, ap, ◌∙◌}
use mathlib.Core.Bool.{Bool, true, false}
use mathlib.Core.List.{List}
use Prim.Native.Nat.{ℕ, zero, suc, ◌+◌, ◌-◌, ◌≤◌, ◌<◌}
use native.Mathlib.Nat.{add_assoc, le_antisymm}
use native.Mathlib.Numerals.{add-one}
use native.Mathlib.Omega.{arith}
use borrow.Author.Tests.{leb-false, le-leb, lt-leb, ltb-true, ltb-false}
use lib.Dec.{leb, ltb}
use lib.ListN.{length}
use Rattle.lists.specs.Searches.{least}
use Rattle.lists.proofs.SearchLaws.{before_least, le_least, least_le, least_bound}
use Rattle.fields.specs.Fields.{stated_at}
use Rattle.schedule.specs.Shape.{place, records}

-- byte i of a value that begins past a tag and a length
pub past_head : (at i : ℕ) → at + 3 + i ≡ at + (3 + i)
past_head at i = add_assoc at 3 i

module _ (bs : List ℕ) where
  pub place_start : place bs 0 ≡ 0
  unfolding place
  place_start = refl

  place_next : (k : ℕ) → place bs (k + 1) ≡ place bs k + 3 + stated_at bs (place bs k)
  unfolding place
  place_next k = ap (place bs) (add-one k)

  pub place_step : (k at : ℕ) → at ≡ place bs k → at + 3 + stated_at bs at ≡ place bs (k + 1)
  place_step k at e = ap (λ (p : ℕ). p + 3 + stated_at bs p) e ∙ sym (place_next k)

  -- where a record ends the next one begins
  pub place_past : (k n at end : ℕ) (b : List ℕ) → n ≡ k + 1 → b ≡ bs → at ≡ place bs k → end ≡ at + 3 + stated_at b at → end ≡ place bs n
  place_past k n at end b m same e f = f ∙ ap (λ (b : List ℕ). at + 3 + stated_at b at) same ∙ place_step k at e ∙ ap (place bs) (sym m)

  pub place_in : (k : ℕ) → k < records bs → place bs k < length bs
  unfolding records
  place_in k h = leb-false (length bs) (place bs k) (before_least (length bs) (λ k. leb (length bs) (place bs k)) k h)

  pub place_low : (k at : ℕ) → length bs ≤ 8192 → k < records bs → at ≡ place bs k → at ≤ 8192
  place_low k at short h e = let p = place_in k h in omega arith

  -- the record before begins no later
  pub place_before : (k : ℕ) → place bs (k - 1) ≤ place bs k
  unfolding place
  place_before zero = omega arith
  place_before (suc k) = let q : suc k - 1 ≡ k = omega arith in let e : place bs (suc k - 1) ≡ place bs k = ap (place bs) q in omega arith

  -- k records begin before the end and no more do
  pub all_met : (k : ℕ) → k ≤ length bs → ((j : ℕ) → j < k → place bs j < length bs) → length bs ≤ place bs k → k ≡ records bs
  unfolding records
  all_met k few before past = le_antisymm low (go (ltb k (length bs)) refl)
    where
      low : k ≤ least (length bs) (λ j. leb (length bs) (place bs j))
      low = le_least (length bs) (λ j. leb (length bs) (place bs j)) k few (λ j h. lt-leb _ _ (before j h))

      go : (t : Bool) → ltb k (length bs) ≡ t → least (length bs) (λ j. leb (length bs) (place bs j)) ≤ k
      go true e = least_le (length bs) (λ j. leb (length bs) (place bs j)) k (ltb-true k (length bs) e) (le-leb _ _ past)
      go false e =
          let l : length bs ≤ k = ltb-false k (length bs) e in
          let b = least_bound (length bs) (λ j. leb (length bs) (place bs j)) in
          omega arith
