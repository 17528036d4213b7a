-- The laws of counting: no more than there are, more where more pass, and one where one passes. Assumes nothing.
use mathlib.Core.Path.{◌≡◌, refl, sym, ap, ◌∙◌}
use mathlib.Core.Bool.{Bool, true, false, cond, true≢false, false≢true}
use mathlib.Core.Logic.{◌⊎◌, inl, inr}
use Prim.Native.Nat.{ℕ, zero, suc, ◌+◌, ◌≤◌, ◌<◌, zero-le, suc-le-suc}
use native.Mathlib.Nat.{le_trans, le-suc, le_of_suc-le-suc, not-suc-le-zero, lt_of_le_of_lt, eq-or-lt_of_le}
use native.Mathlib.Numerals.{add-one}
use native.Mathlib.Omega.{arith}
use Rattle.lists.specs.Searches.{count}

pub count_le : (n : ℕ) (f : ℕ → Bool) → count n f ≤ n
unfolding count
count_le zero f = zero-le
count_le (suc n) f = go (f n) (count_le n f)
  where
    go : (t : Bool) {x : ℕ} → x ≤ n → cond t (suc x) x ≤ suc n
    go true h = suc-le-suc h
    go false h = le_trans h (le-suc n)

module _ (f g : ℕ → Bool) (up : (i : ℕ) → f i ≡ true → g i ≡ true) where
  pub count_up : (n : ℕ) → count n f ≤ count n g
  unfolding count
  count_up zero = zero-le
  count_up (suc n) = go (f n) (g n) (up n) (count_up n)
    where
      go : (s t : Bool) → (s ≡ true → t ≡ true) → {x y : ℕ} → x ≤ y → cond s (suc x) x ≤ cond t (suc y) y
      go true true u h = suc-le-suc h
      go true false u h = absurd (false≢true (u refl))
      go false true u {y = y} h = le_trans h (le-suc y)
      go false false u h = h

  pub count_more : (n i : ℕ) → i < n → f i ≡ false → g i ≡ true → count n f < count n g
  unfolding count
  count_more zero i h e d = absurd (not-suc-le-zero h)
  count_more (suc n) i h e d = go (f n) (g n) (up n) refl refl (eq-or-lt_of_le (le_of_suc-le-suc h)) (λ l. count_more n i l e d)
    where
      go : (s t : Bool) → (s ≡ true → t ≡ true) → f n ≡ s → g n ≡ t → (i ≡ n) ⊎ (i < n) → (i < n → count n f < count n g) → cond s (suc (count n f)) (count n f) < cond t (suc (count n g)) (count n g)
      go true true u p q (inl w) r = absurd (true≢false (sym p ∙ ap f (sym w) ∙ e))
      go true true u p q (inr w) r = suc-le-suc (r w)
      go true false u p q w r = absurd (false≢true (u refl))
      go false true u p q w r = suc-le-suc (count_up n)
      go false false u p q (inl w) r = absurd (false≢true (sym q ∙ ap g (sym w) ∙ d))
      go false false u p q (inr w) r = r w

pub count_pos : (n i : ℕ) (f : ℕ → Bool) → i < n → f i ≡ true → 0 < count n f
count_pos n i f h e = lt_of_le_of_lt zero-le (count_more (λ j. false) f (λ j z. absurd (false≢true z)) n i h refl e)

-- counted from the other end
pub count_low : (n : ℕ) (f : ℕ → Bool) → count (suc n) f ≡ cond (f 0) (suc (count n (λ i. f (suc i)))) (count n (λ i. f (suc i)))
unfolding count
count_low zero f = refl
count_low (suc n) f = ap (λ (c : ℕ). cond (f (suc n)) (suc c) c) (count_low n f) ∙ swap (f (suc n)) (f 0) (count n (λ i. f (suc i)))
  where
    swap : (s t : Bool) (x : ℕ) → cond s (suc (cond t (suc x) x)) (cond t (suc x) x) ≡ cond t (suc (cond s (suc x) x)) (cond s (suc x) x)
    swap true true x = refl
    swap true false x = refl
    swap false true x = refl
    swap false false x = refl

pub count_same : (n : ℕ) (f g : ℕ → Bool) → ((i : ℕ) → f i ≡ g i) → count n f ≡ count n g
unfolding count
count_same zero f g e = refl
count_same (suc n) f g e = rw (e n, count_same n f g e)

-- ---- a loop that counts

pub count_start : (f : ℕ → Bool) → count 0 f ≡ 0
unfolding count
count_start f = refl

pub count_next : (f : ℕ → Bool) (n : ℕ) → count (n + 1) f ≡ count n f + cond (f n) 1 0
unfolding count
count_next f n = ap (λ (k : ℕ). count k f) (add-one n) ∙ go (f n)
  where
    go : (t : Bool) → cond t (suc (count n f)) (count n f) ≡ count n f + cond t 1 0
    go true = omega arith
    go false = omega arith
