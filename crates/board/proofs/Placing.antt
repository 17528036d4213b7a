-- Where an image stands in a board, and what settling it there makes of the list. Assumes nothing.
use mathlib.Core.Path.{◌≡◌, refl, sym, ap, ◌∙◌, subst}
use mathlib.Core.Bool.{true}
use mathlib.Core.List.{List, [], ◌∷◌, ◌++◌, append-nil, map}
use Prim.Native.Nat.{ℕ, zero, suc, ◌+◌, ◌≤◌, ◌<◌}
use native.Mathlib.Omega.{arith}
use borrow.Author.Tests.{eq-eqb, ne_eqb, lt-ltb, le-ltb, ltb-true}
use lib.Dec.{ltb}
use lib.ListN.{length, take, drop, get_or}
use Rattle.std.specs.List.Sorted.{IsSearchInRange, IsBinarySearchResult, IsNonDecreasingBy}
use Rattle.std.specs.Ordering.{nat_cmp, ordering_index}
use Rattle.std.proofs.Common.{Result, Ok, Err, MatchResult}
use Rattle.std.proofs.lemmas.Bool.Decides.{nat_tests}
use Rattle.std.proofs.lemmas.Cmp.{ranked}
use Rattle.lists.specs.Lists.{rising_from, rising}
use Rattle.lists.proofs.Bools.{and_left_lem, and_right}
use Rattle.lists.proofs.Order.{rising_tail}
use Rattle.board.specs.declared.Stand.{Stand}
use Rattle.board.specs.declared.Stand.TheVariants.{Absent}
use Rattle.board.specs.declared.Place.{Place}
use Rattle.board.specs.Board.{before, stands, placed, settle}
use Rattle.board.specs.Inside.{StandsAt, WouldStandAt}

-- ---- a list whose first place has a smaller image, that image, or a larger one

module _ (image : ℕ) (p : Place) (l : List Place) where
  pub settle_past : (stand : Stand) → p.image < image → settle image stand (p ∷ l) ≡ p ∷ settle image stand l
  settle_past stand h = simp (lt-ltb _ _ h)

  pub stands_past : p.image < image → stands image (p ∷ l) ≡ stands image l
  stands_past h = let ne : p.image ≡ image → ⊥ = λ e. omega arith in simp (ne_eqb _ _ ne)

  pub settle_there : (stand : Stand) → p.image ≡ image → settle image stand (p ∷ l) ≡ placed image stand ++ l
  settle_there stand e = let le : image ≤ p.image = omega arith in simp (le-ltb _ _ le, eq-eqb _ _ e)

  pub stands_there : p.image ≡ image → stands image (p ∷ l) ≡ p.stand
  stands_there e = simp (eq-eqb _ _ e)

  pub settle_before : (stand : Stand) → image < p.image → settle image stand (p ∷ l) ≡ placed image stand ++ (p ∷ l)
  settle_before stand h =
      let le : image ≤ p.image = omega arith in
      let ne : p.image ≡ image → ⊥ = λ e. omega arith in
      simp (le-ltb _ _ le, ne_eqb _ _ ne)

-- no image that is at most one of a rising list comes after it
pub none_after : (image : ℕ) (p : Place) (l : List Place) → image ≤ p.image → rising_from before p l ≡ true → stands image l ≡ Absent
none_after image p [] h up = refl
none_after image p (q ∷ l) h up =
    let pq : p.image < q.image = ltb-true _ _ (and_left_lem (ltb p.image q.image) (rising_from before q l) up) in
    let ne : q.image ≡ image → ⊥ = λ e. omega arith in
    simp (ne_eqb _ _ ne) (none_after image q l (omega arith) (and_right (ltb p.image q.image) (rising_from before q l) up))

-- ---- in a rising list, in whatever form its places are kept

module _ {P : Type 0} (place : P → Place) where
  from_below : (p : Place) (l : List P) → rising_from before p (map place l) ≡ true → (j : ℕ) (d : P) → j < length l → p.image < (place (get_or l j d)).image
  from_below p [] up j d h = let f : ⊥ = omega arith in absurd f
  from_below p (x ∷ l) up zero d h = ltb-true _ _ (and_left_lem (ltb p.image (place x).image) (rising_from before (place x) (map place l)) up)
  from_below p (x ∷ l) up (suc j) d h =
      let first : p.image < (place x).image = ltb-true _ _ (and_left_lem (ltb p.image (place x).image) (rising_from before (place x) (map place l)) up) in
      let rest = from_below (place x) l (and_right (ltb p.image (place x).image) (rising_from before (place x) (map place l)) up) j d (omega arith) in
      omega arith

  below : (l : List P) → rising before (map place l) ≡ true → (i j : ℕ) (d : P) → i < j → j < length l → (place (get_or l i d)).image < (place (get_or l j d)).image
  below [] up i j d lt h = let f : ⊥ = omega arith in absurd f
  below (x ∷ l) up i zero d lt h = let f : ⊥ = omega arith in absurd f
  below (x ∷ l) up zero (suc j) d lt h = from_below (place x) l up j d (omega arith)
  below (x ∷ l) up (suc i) (suc j) d lt h = below l (rising_tail before (place x) (map place l) up) i j d (omega arith) (omega arith)

  module _ (image : ℕ) where
    -- the image stands where a place has it
    stands_at : (l : List P) (at : ℕ) → rising before (map place l) ≡ true → at < length l → ((d : P) → (place (get_or l at d)).image ≡ image) → StandsAt (map place l) image at
    stands_at [] at up h has = let f : ⊥ = omega arith in absurd f
    stands_at (x ∷ l) zero up h has =
        record {
          within = omega arith;
          stood = stands_there image (place x) (map place l) (has x);
          settled = λ stand. settle_there image (place x) (map place l) stand (has x);
        }
    stands_at (x ∷ l) (suc at) up h has =
        let inner = stands_at l at (rising_tail before (place x) (map place l) up) (omega arith) has in
        let e = has x in
        let past = from_below (place x) l up at x (omega arith) in
        let lt : (place x).image < image = omega arith in
        let within = inner.within in
        let one_more : suc (at + 1) ≡ suc at + 1 = omega arith in
        record {
          within = omega arith;
          stood = stands_past image (place x) (map place l) lt ∙ inner.stood;
          settled = λ stand.
              settle_past image (place x) (map place l) stand lt
              ∙ ap (λ (t : List Place). place x ∷ t) (inner.settled stand)
              ∙ ap (λ (k : ℕ). place x ∷ (take at (map place l) ++ (placed image stand ++ drop k (map place (x ∷ l))))) one_more;
        }

    -- it would stand between those below it and those above
    would_stand_at : (l : List P) (at : ℕ) → rising before (map place l) ≡ true → at ≤ length l → ((k : ℕ) (d : P) → k < at → (place (get_or l k d)).image < image)
        → ((k : ℕ) (d : P) → at ≤ k → k < length l → image < (place (get_or l k d)).image) → WouldStandAt (map place l) image at
    would_stand_at [] zero up h low high = record { within = h; stood = refl; settled = λ stand. sym (append-nil (placed image stand)) }
    would_stand_at [] (suc at) up h low high = let f : ⊥ = omega arith in absurd f
    would_stand_at (x ∷ l) zero up h low high =
        let lt : image < (place x).image = high 0 x (omega arith) (omega arith) in
        let ne : (place x).image ≡ image → ⊥ = λ e. omega arith in
        record {
          within = omega arith;
          stood = simp (ne_eqb _ _ ne) (none_after image (place x) (map place l) (omega arith) up);
          settled = λ stand. settle_before image (place x) (map place l) stand lt;
        }
    would_stand_at (x ∷ l) (suc at) up h low high =
        let lt : (place x).image < image = low 0 x (omega arith) in
        let inner = would_stand_at l at (rising_tail before (place x) (map place l) up) (omega arith) (λ k d b. low (suc k) d (omega arith))
        (λ k d a b. high (suc k) d (omega arith) (omega arith)) in
        let within = inner.within in
        record {
          within = omega arith;
          stood = stands_past image (place x) (map place l) lt ∙ inner.stood;
          settled = λ stand. settle_past image (place x) (map place l) stand lt ∙ ap (λ (t : List Place). place x ∷ t) (inner.settled stand);
        }

    module _ (l : List P) (up : rising before (map place l) ≡ true) where
      -- the comparisons with the image rise along the list, as a binary search asks
      comparisons_rise : IsNonDecreasingBy (λ p. ordering_index (nat_cmp (place p).image image)) l
      comparisons_rise i j d le h =
          let apart : i < j → (place (get_or l i d)).image < (place (get_or l j d)).image = λ lt. below l up i j d lt h in
          let same : i ≡ j → (place (get_or l i d)).image ≡ (place (get_or l j d)).image = λ e. ap (λ (k : ℕ). (place (get_or l k d)).image) e in
          let at_most : (place (get_or l i d)).image ≤ (place (get_or l j d)).image = grind (arith, apart, same) in
          grind (arith, nat_tests)

      searched : (r : Result ℕ ℕ) → IsSearchInRange r (length l) → IsBinarySearchResult (λ p. nat_cmp (place p).image image) l r
          → MatchResult r (StandsAt (map place l) image) (WouldStandAt (map place l) image)
      searched (Ok at) within has = stands_at l at up within (λ d. ranked _ image _ (sym (has d)))
      searched (Err at) within parted =
          let cut = parted comparisons_rise in
          would_stand_at l at up within (λ k d h. ranked _ image _ (sym (cut.0 k d (omega arith) h))) (λ k d a h. ranked _ image _ (sym (cut.1 k d a h)))

      -- the same of a search for what is the image
      pub searched_for : {key : ℕ} (r : Result ℕ ℕ) → IsSearchInRange r (length l) → IsBinarySearchResult (λ p. nat_cmp (place p).image key) l r → key ≡ image
          → MatchResult r (StandsAt (map place l) image) (WouldStandAt (map place l) image)
      searched_for r within found is = searched r within (subst (λ (k : ℕ). IsBinarySearchResult (λ p. nat_cmp (place p).image k) l r) is found)
