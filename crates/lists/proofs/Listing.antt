-- A list by its places: how long it is, what stands where, and the loops that fill an array with it. Assumes nothing.
use mathlib.Core.Path.{◌≡◌, refl, sym, ap, ◌∙◌}
use mathlib.Core.Bool.{Bool, true, false}
use mathlib.Core.List.{[], ◌∷◌, ◌++◌}
use Prim.Native.Nat.{ℕ, zero, suc, ◌+◌, ◌<◌}
use native.Mathlib.Nat.{sub-zero}
use native.Mathlib.Numerals.{add-one}
use native.Mathlib.Omega.{arith}
use borrow.Author.Tests.{eqb-true, eqb-false}
use lib.Dec.{eqb}
use lib.ListN.{length, get_or, set, replicate, length-append, length-replicate, length-set, get_or-replicate, get_or-append}
use lib.Seq.{get_or_at, get_or-set_same, get_or-set_other, ext_get_or}
use Rattle.lists.specs.Lists.{pad, listed}
use Rattle.lists.specs.Searches.{last_of}
use Rattle.lists.proofs.Places.{pad_more}
use Rattle.lists.proofs.SearchLaws.{last_of_start, last_of_next}

module _ {A : Type 0} where
  pub length_listed : (n : ℕ) (f : ℕ → A) → length (listed n f) ≡ n
  unfolding listed
  length_listed zero f = refl
  length_listed (suc n) f = let ih = length_listed n f in let l = length-append (listed n f) (f n ∷ []) in omega arith

  pub get_or_listed : (n : ℕ) (f : ℕ → A) (i : ℕ) (d : A) → i < n → get_or (listed n f) i d ≡ f i
  unfolding listed
  get_or_listed zero f i d h = let none : ⊥ = omega arith in absurd none
  get_or_listed (suc n) f i d h = go (eqb i n) refl (get_or_listed n f i d)
    where
      go : (t : Bool) → eqb i n ≡ t → (i < n → get_or (listed n f) i d ≡ f i) → get_or (listed n f ++ (f n ∷ [])) i d ≡ f i
      go true e ih = let q : i ≡ n = eqb-true i n e in get_or_at (listed n f) (f n) [] d i (length_listed n f ∙ sym q) ∙ ap f (sym q)
      go false e ih =
          let q : i ≡ n → ⊥ = eqb-false i n e in
          let l = length_listed n f in
          get_or-append (listed n f) (f n ∷ []) d i (omega arith) ∙ ih (omega arith)

  -- ---- an array filled from its first place on

  pub fill_start : (N : ℕ) (z : A) (f : ℕ → A) → replicate N z ≡ pad N z (listed 0 f)
  unfolding listed
  fill_start N z f = ap (λ (k : ℕ). replicate k z) (sym (sub-zero N))

  pub fill_next : (N : ℕ) (z : A) (f : ℕ → A) (i : ℕ) → i < N → set (pad N z (listed i f)) i (f i) ≡ pad N z (listed (i + 1) f)
  unfolding listed
  fill_next N z f i h =
      let l = length_listed i f in
      ap (λ (k : ℕ). set (pad N z (listed i f)) k (f i)) (sym l)
      ∙ pad_more N z (f i) (listed i f) (omega arith)
      ∙ ap (λ (k : ℕ). pad N z (listed k f)) (sym (add-one i))

  -- ---- an array in which each turn sets one place: the last to set it decides

  module _ (N : ℕ) (at : ℕ → ℕ) (v : ℕ → A) (z : A) where
    -- what place x holds after n turns
    abbrev pub set_by : ℕ → ℕ → A
    set_by n x = last_of n (λ i. eqb (at i) x) v z

    pub table_start : replicate N z ≡ listed N (set_by 0)
    table_start =
        ext_get_or z (replicate N z) (listed N (set_by 0)) (length-replicate N z ∙ sym (length_listed N (set_by 0)))
        (λ i h. let r = length-replicate N z in
        get_or-replicate N i z z (omega arith) ∙ sym (last_of_start (λ j. eqb (at j) i) v z) ∙ sym (get_or_listed N (set_by 0) i z (omega arith)))

    -- a place past the end is none of the array's
    pub table_next : (n : ℕ) → set (listed N (set_by n)) (at n) (v n) ≡ listed N (set_by (n + 1))
    table_next n =
        let l = length_listed N (set_by n) in
        let long : length (set (listed N (set_by n)) (at n) (v n)) ≡ N = length-set (listed N (set_by n)) (at n) (v n) ∙ l in
        ext_get_or z (set (listed N (set_by n)) (at n) (v n)) (listed N (set_by (n + 1))) (long ∙ sym (length_listed N (set_by (n + 1))))
        (λ i h. go i (omega arith) (eqb (at n) i) refl)
      where
        go : (i : ℕ) → i < N → (t : Bool) → eqb (at n) i ≡ t → get_or (set (listed N (set_by n)) (at n) (v n)) i z ≡ get_or (listed N (set_by (n + 1))) i z
        go i h true e =
            let q : at n ≡ i = eqb-true (at n) i e in
            let l = length_listed N (set_by n) in
            ap (λ (k : ℕ). get_or (set (listed N (set_by n)) k (v n)) i z) q
            ∙ get_or-set_same (listed N (set_by n)) i (v n) z (omega arith)
            ∙ sym (get_or_listed N (set_by (n + 1)) i z h ∙ last_of_next (λ j. eqb (at j) i) v z n ∙ (rw e))
        go i h false e =
            get_or-set_other (listed N (set_by n)) (at n) i (v n) z (λ q. eqb-false (at n) i e (sym q))
            ∙ get_or_listed N (set_by n) i z h
            ∙ sym (get_or_listed N (set_by (n + 1)) i z h ∙ last_of_next (λ j. eqb (at j) i) v z n ∙ (rw e))
