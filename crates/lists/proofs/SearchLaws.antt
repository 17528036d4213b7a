-- The laws of searches over the numbers below a bound: a turn of the loop that counts, its end, and what was found. Assumes nothing.
use mathlib.Core.Path.{◌≡◌, refl, sym, ap, ap₂, ◌∙◌, subst}
use mathlib.Core.Bool.{Bool, true, false, cond, ◌&&◌, ◌||◌, true≢false, false≢true}
use mathlib.Core.Logic.{◌⊎◌, inl, inr, ⊎_elim}
use Prim.Native.Nat.{ℕ, zero, suc, ◌+◌, ◌≤◌, ◌<◌, zero-le, suc-le-suc, max}
use native.Mathlib.Nat.{le_refl, le_trans, le_of_suc-le-suc, not-suc-le-zero, eq-or-lt_of_le, le-suc, le_antisymm, le-max_left, le-max_right, max-le}
use native.Mathlib.Numerals.{add-one}
use native.Mathlib.Omega.{arith}
use borrow.Author.Tests.{leb-true, leb-false}
use lib.Dec.{leb}
use Rattle.lists.specs.Searches.{some, each, largest, least, last_of}
use Rattle.lists.proofs.Bools.{false_unless, and_left_lem, and_right, or_left_lem, or_right, or_true_left, or_true_right, or_cases}

-- i is below n or it is n
below_suc : {i n : ℕ} → i < suc n → (i ≡ n) ⊎ (i < n)
below_suc h = eq-or-lt_of_le (le_of_suc-le-suc h)

-- after the last turn of a loop that counts i up to n, what a search found below i it found below n
pub at_end : {A : Type 0} (found : ℕ → A) {t : A} {i n : ℕ} → i ≤ n → n ≤ i → t ≡ found i → t ≡ found n
at_end found h l e = e ∙ ap found (le_antisymm h l)

module _ (f : ℕ → Bool) where
  -- ---- some

  pub some_start : some 0 f ≡ false
  unfolding some
  some_start = refl

  pub some_more : (n : ℕ) → some (n + 1) f ≡ (f n || some n f)
  unfolding some
  some_more n = ap (λ (k : ℕ). some k f) (add-one n)

  pub some_again : (n : ℕ) → f n ≡ false → some n f ≡ false → some (n + 1) f ≡ false
  some_again n e h = some_more n ∙ ap (λ (t : Bool). t || some n f) e ∙ h

  pub some_true : (n i : ℕ) → i < n → f i ≡ true → some n f ≡ true
  unfolding some
  some_true zero i h e = absurd (not-suc-le-zero h)
  some_true (suc n) i h e =
      ⊎_elim (λ q. or_true_left (f n) (some n f) (subst (λ (k : ℕ). f k ≡ true) q e)) (λ l. or_true_right (f n) (some n f) (some_true n i l e)) (below_suc h)

  pub some_false : (n : ℕ) → some n f ≡ false → (i : ℕ) → i < n → f i ≡ false
  unfolding some
  some_false zero e i h = absurd (not-suc-le-zero h)
  some_false (suc n) e i h =
      ⊎_elim (λ q. subst (λ (k : ℕ). f k ≡ false) (sym q) (or_left_lem (f n) (some n f) e)) (λ l. some_false n (or_right (f n) (some n f) e) i l) (below_suc h)

  -- a number at which the test passes
  pub some_at : (n : ℕ) → some n f ≡ true → (i : ℕ) × (i < n) × (f i ≡ true)
  unfolding some
  some_at zero e = absurd (false≢true e)
  some_at (suc n) e =
      ⊎_elim (λ q. (n, le_refl (suc n), q)) (λ r. let s = some_at n r in (s.0, le_trans s.1 (le-suc n), s.2)) (or_cases (f n) (some n f) e)

  -- ---- each

  pub each_start : each 0 f ≡ true
  unfolding each
  each_start = refl

  pub each_more : (n : ℕ) → each (n + 1) f ≡ (f n && each n f)
  unfolding each
  each_more n = ap (λ (k : ℕ). each k f) (add-one n)

  pub each_true : (n : ℕ) → each n f ≡ true → (i : ℕ) → i < n → f i ≡ true
  unfolding each
  each_true zero e i h = absurd (not-suc-le-zero h)
  each_true (suc n) e i h =
      ⊎_elim (λ q. subst (λ (k : ℕ). f k ≡ true) (sym q) (and_left_lem (f n) (each n f) e)) (λ l. each_true n (and_right (f n) (each n f) e) i l) (below_suc h)

  pub each_of : (n : ℕ) → ((i : ℕ) → i < n → f i ≡ true) → each n f ≡ true
  unfolding each
  each_of zero h = refl
  each_of (suc n) h = ap₂ (λ (s t : Bool). s && t) (h n (le_refl (suc n))) (each_of n (λ i l. h i (le_trans l (le-suc n))))

  -- a number at which the test fails
  pub each_false : (n : ℕ) → each n f ≡ false → (i : ℕ) × (i < n) × (f i ≡ false)
  unfolding each
  each_false zero e = absurd (true≢false e)
  each_false (suc n) e = go (f n) refl (each_false n)
    where
      go : (t : Bool) → f n ≡ t → (each n f ≡ false → (i : ℕ) × (i < n) × (f i ≡ false)) → (i : ℕ) × (i < suc n) × (f i ≡ false)
      go true q rest = let s = rest (sym (ap (λ (t : Bool). t && each n f) q) ∙ e) in (s.0, le_trans s.1 (le-suc n), s.2)
      go false q rest = (n, le_refl (suc n), q)

max_cases : (k x y : ℕ) → k ≤ max x y → (k ≤ x) ⊎ (k ≤ y)
max_cases k x y h = go (leb k x) refl
  where
    go : (t : Bool) → leb k x ≡ t → (k ≤ x) ⊎ (k ≤ y)
    go true e = inl (leb-true k x e)
    go false e = let l : x < k = leb-false k x e in inr (omega arith)

module _ (f : ℕ → ℕ) where
  -- ---- largest

  pub largest_le : (n k : ℕ) → ((i : ℕ) → i < n → f i ≤ k) → largest n f ≤ k
  unfolding largest
  largest_le zero k h = zero-le
  largest_le (suc n) k h = max-le (h n (le_refl (suc n))) (largest_le n k (λ i l. h i (le_trans l (le-suc n))))

  pub le_largest : (n i : ℕ) → i < n → f i ≤ largest n f
  unfolding largest
  le_largest zero i h = absurd (not-suc-le-zero h)
  le_largest (suc n) i h =
      ⊎_elim (λ q. subst (λ (k : ℕ). f k ≤ max (f n) (largest n f)) (sym q) (le-max_left (f n) (largest n f)))
      (λ l. le_trans (le_largest n i l) (le-max_right (f n) (largest n f))) (below_suc h)

  -- a number at which f is at least k
  pub largest_at : (k n : ℕ) → 0 < k → k ≤ largest n f → (i : ℕ) × (i < n) × (k ≤ f i)
  unfolding largest
  largest_at k zero h l = absurd (not-suc-le-zero (le_trans h l))
  largest_at k (suc n) h l =
      ⊎_elim (λ q. (n, le_refl (suc n), q)) (λ q. let s = largest_at k n h q in (s.0, le_trans s.1 (le-suc n), s.2)) (max_cases k (f n) (largest n f) l)

-- ---- least

pub least_bound : (n : ℕ) (f : ℕ → Bool) → least n f ≤ n
unfolding least
least_bound zero f = zero-le
least_bound (suc n) f = go (f 0) (least_bound n (λ k. f (suc k)))
  where
    go : (t : Bool) {l : ℕ} → l ≤ n → cond t 0 (suc l) ≤ suc n
    go true h = zero-le
    go false h = suc-le-suc h

pub least_le : (n : ℕ) (f : ℕ → Bool) (k : ℕ) → k < n → f k ≡ true → least n f ≤ k
unfolding least
least_le zero f k h e = absurd (not-suc-le-zero h)
least_le (suc n) f zero h e = subst (λ (t : Bool). cond t 0 (suc (least n (λ k. f (suc k)))) ≤ 0) (sym e) zero-le
least_le (suc n) f (suc k) h e = go (f 0) (least_le n (λ k. f (suc k)) k (le_of_suc-le-suc h) e)
  where
    go : (t : Bool) {l : ℕ} → l ≤ k → cond t 0 (suc l) ≤ suc k
    go true h = zero-le
    go false h = suc-le-suc h

pub least_hits : (n : ℕ) (f : ℕ → Bool) → least n f < n → f (least n f) ≡ true
unfolding least
least_hits zero f h = absurd (not-suc-le-zero h)
least_hits (suc n) f h = go (f 0) refl (least n (λ k. f (suc k))) (least_hits n (λ k. f (suc k))) h
  where
    go : (t : Bool) → f 0 ≡ t → (l : ℕ) → (l < n → f (suc l) ≡ true) → cond t 0 (suc l) < suc n → f (cond t 0 (suc l)) ≡ true
    go true q l rest h = q
    go false q l rest h = rest (le_of_suc-le-suc h)

pub le_least : (n : ℕ) (f : ℕ → Bool) (k : ℕ) → k ≤ n → ((j : ℕ) → j < k → f j ≡ false) → k ≤ least n f
unfolding least
le_least zero f k h g = h
le_least (suc n) f zero h g = zero-le
le_least (suc n) f (suc k) h g =
    subst (λ (t : Bool). suc k ≤ cond t 0 (suc (least n (λ j. f (suc j))))) (sym (g 0 (suc-le-suc zero-le)))
    (suc-le-suc (le_least n (λ j. f (suc j)) k (le_of_suc-le-suc h) (λ j l. g (suc j) (suc-le-suc l))))

-- tests that agree below n find the same
pub some_same : (n : ℕ) (f g : ℕ → Bool) → ((i : ℕ) → i < n → f i ≡ g i) → some n f ≡ some n g
unfolding some
some_same zero f g e = refl
some_same (suc n) f g e = ap₂ (λ (x y : Bool). x || y) (e n (le_refl (suc n))) (some_same n f g (λ i h. e i (le_trans h (le-suc n))))

-- where the search for the least stops: at a number that passes after none that does, or past them all
pub least_here : (n : ℕ) (f : ℕ → Bool) (k : ℕ) → k < n → ((j : ℕ) → j < k → f j ≡ false) → f k ≡ true → k ≡ least n f
least_here n f k h none e = le_antisymm (le_least n f k (omega arith) none) (least_le n f k h e)

pub least_none : (n : ℕ) (f : ℕ → Bool) → ((j : ℕ) → j < n → f j ≡ false) → n ≡ least n f
least_none n f none = le_antisymm (le_least n f n (le_refl n) none) (least_bound n f)

-- what lies before the least fails
pub before_least : (n : ℕ) (f : ℕ → Bool) (k : ℕ) → k < least n f → f k ≡ false
before_least n f k h = false_unless (f k) (λ e. let l = least_le n f k (let b = least_bound n f in omega arith) e in omega arith)

-- ---- last_of: what is found passed its test, or nothing did

module _ {A : Type 0} (f : ℕ → Bool) (v : ℕ → A) (d : A) where
  pub last_of_start : last_of 0 f v d ≡ d
  unfolding last_of
  last_of_start = refl

  pub last_of_next : (n : ℕ) → last_of (n + 1) f v d ≡ cond (f n) (v n) (last_of n f v d)
  unfolding last_of
  last_of_next n = ap (λ (k : ℕ). last_of k f v d) (add-one n)

  -- whatever holds of the default, and of the value at each number that passes, holds of what is found
  pub last_of_is : (P : A → Type 0) (n : ℕ) → P d → ((i : ℕ) → i < n → f i ≡ true → P (v i)) → P (last_of n f v d)
  unfolding last_of
  last_of_is P zero p q = p
  last_of_is P (suc n) p q = go (f n) refl (last_of_is P n p (λ i h. q i (le_trans h (le-suc n))))
    where
      go : (t : Bool) → f n ≡ t → P (last_of n f v d) → P (cond t (v n) (last_of n f v d))
      go true e r = q n (le_refl (suc n)) e
      go false e r = r
