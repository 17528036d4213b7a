-- Loops over the elements of a list. What a loop has left is a list: a turn takes its first element, the end finds it empty, and a law for
-- each search says what the loop then has. Assumes nothing.
use mathlib.Core.Path.{◌≡◌, refl, sym, ap, ◌∙◌}
use mathlib.Core.Bool.{Bool, true, false, not, cond, ◌&&◌, ◌||◌, and_assoc, and-true, or-false}
use mathlib.Core.List.{List, [], ◌∷◌, ◌++◌, append-nil}
use Prim.Native.Nat.{ℕ, zero, suc, ◌+◌, ◌≤◌, ◌<◌}
use native.Mathlib.Numerals.{add-one}
use native.Mathlib.Omega.{arith}
use lib.ListN.{length, take, drop, get_or, drop_of_length-le, length-append}
use lib.Seq.{drop-cons, get_or-take, length-take-le, take-suc, take-add}
use Rattle.lists.specs.Lists.{all, any, rising_from, rising, keep}
use Rattle.lists.proofs.Bools.{and_left_lem, and_right}

-- ---- what is left

module _ {A : Type 0} (l : List A) where
  -- of the whole list, from i on
  pub left_next : (d : A) (i : ℕ) → i < length l → drop i l ≡ get_or l i d ∷ drop (i + 1) l
  left_next d i h = rw add-one (drop-cons l i d h)

  pub left_none : (i : ℕ) → length l ≤ i → drop i l ≡ []
  left_none i h = drop_of_length-le l {i = i} h

  -- x is the element that stands there
  pub item_next : {x : A} {i : ℕ} → i < length l → x ≡ get_or l i x → drop i l ≡ x ∷ drop (i + 1) l
  item_next {x} {i} h e = left_next x i h ∙ ap (λ (y : A). y ∷ drop (i + 1) l) (sym e)

  -- of the first n, from i on
  module _ (n : ℕ) (fits : n ≤ length l) where
    pub first_next : (d : A) (i : ℕ) → i < n → drop i (take n l) ≡ get_or l i d ∷ drop (i + 1) (take n l)
    first_next d i h =
        rw add-one
        (drop-cons (take n l) i d (rw (length-take-le n l fits) h) ∙ ap (λ (x : A). x ∷ drop (suc i) (take n l)) (get_or-take n l i d h))

    pub first_none : (i : ℕ) → n ≤ i → drop i (take n l) ≡ []
    first_none i h = drop_of_length-le (take n l) {i = i} (rw (length-take-le n l fits) h)

-- ---- a loop that tests every element: what it found so far, with what is left to test, is the whole, t

module _ {A : Type 0} {left rest : List A} {x : A} {t : Bool} where
  pub all_turn : (p : A → Bool) (ok b : Bool) → left ≡ x ∷ rest → (ok && all p left) ≡ t → b ≡ p x → ((ok && b) && all p rest) ≡ t
  all_turn p ok b s inv e = rw (e, and_assoc ok (p x) (all p rest)) (rw s at inv)

module _ {A : Type 0} {left : List A} {t : Bool} where
  pub all_end : (p : A → Bool) (ok : Bool) → left ≡ [] → (ok && all p left) ≡ t → ok ≡ t
  all_end p ok s inv = sym (and-true ok) ∙ (rw s at inv)

  pub any_end : (p : A → Bool) (ok : Bool) → left ≡ [] → (ok || any p left) ≡ t → ok ≡ t
  any_end p ok s inv = sym (or-false ok) ∙ (rw s at inv)

-- before the first turn, the first element is the one before
pub rising_start : {A : Type 0} (r : A → A → Bool) (d : A) (n : ℕ) (l : List A) → rising_from r (get_or l 0 d) (drop 1 (take n l)) ≡ rising r (take n l)
rising_start r d zero l = refl
rising_start r d (suc n) [] = refl
rising_start r d (suc n) (x ∷ l) = refl

-- ---- a loop that keeps the elements that pass a test

module _ {A : Type 0} (p : A → Bool) where
  pub keep_append : (a b : List A) → keep p (a ++ b) ≡ keep p a ++ keep p b
  keep_append [] b = refl
  keep_append (x ∷ a) b = go (p x) (keep_append a b)
    where
      go : (t : Bool) → keep p (a ++ b) ≡ keep p a ++ keep p b → cond t (x ∷ keep p (a ++ b)) (keep p (a ++ b)) ≡ cond t (x ∷ keep p a) (keep p a) ++ keep p b
      go true ih = ap (λ (l : List A). x ∷ l) ih
      go false ih = ih

  module _ (d : A) (l : List A) (i : ℕ) (h : i < length l) where
    keep_next : keep p (take (i + 1) l) ≡ keep p (take i l) ++ keep p (get_or l i d ∷ [])
    keep_next = rw add-one (ap (keep p) (take-suc l i d h) ∙ keep_append (take i l) (get_or l i d ∷ []))

    pub keep_yes : p (get_or l i d) ≡ true → keep p (take (i + 1) l) ≡ keep p (take i l) ++ (get_or l i d ∷ [])
    keep_yes e = rw e at keep_next

    pub keep_no : p (get_or l i d) ≡ false → keep p (take (i + 1) l) ≡ keep p (take i l)
    keep_no e = (rw e at keep_next) ∙ append-nil (keep p (take i l))

    pub count_yes : p (get_or l i d) ≡ true → length (keep p (take (i + 1) l)) ≡ length (keep p (take i l)) + 1
    count_yes e = ap length (keep_yes e) ∙ length-append (keep p (take i l)) (get_or l i d ∷ [])

  -- more elements, no fewer kept
  pub keep_grows : (l : List A) (i k : ℕ) → length (keep p (take i l)) ≤ length (keep p (take (i + k) l))
  keep_grows l i k =
      let e : length (keep p (take (i + k) l)) ≡ length (keep p (take i l)) + length (keep p (take k (drop i l))) =
      ap (λ (x : List A). length (keep p x)) (take-add i k l)
      ∙ ap length (keep_append (take i l) (take k (drop i l)))
      ∙ length-append (keep p (take i l)) (keep p (take k (drop i l))) in
      omega arith

-- what passes a test and what fails it are all
pub keep_both : {A : Type 0} (p : A → Bool) (l : List A) → length (keep p l) + length (keep (λ (x : A). not (p x)) l) ≡ length l
keep_both p [] = refl
keep_both {A} p (x ∷ l) = go (p x) (keep_both p l)
  where
    go : (t : Bool) → length (keep p l) + length (keep (λ (x : A). not (p x)) l) ≡ length l
        → length (cond t (x ∷ keep p l) (keep p l)) + length (cond (not t) (x ∷ keep (λ (x : A). not (p x)) l) (keep (λ (x : A). not (p x)) l)) ≡ suc (length l)
    go true ih = omega arith
    go false ih = omega arith

-- what passes at every element passes at each place
pub all_at : {A : Type 0} (p : A → Bool) (d : A) (l : List A) (i : ℕ) → i < length l → all p l ≡ true → p (get_or l i d) ≡ true
all_at p d [] i h e = let f : ⊥ = omega arith in absurd f
all_at p d (x ∷ l) zero h e = and_left_lem (p x) (all p l) e
all_at p d (x ∷ l) (suc i) h e = all_at p d l i (omega arith) (and_right (p x) (all p l) e)
