-- One element more among those of an array, its place sought from behind: which place that is, what the array then holds, and that where the
-- elements rise it is the place that `insert` finds. Assumes nothing.
use mathlib.Core.Path.{◌≡◌, refl, sym, ap, ap₂, ◌∙◌, subst}
use mathlib.Core.Bool.{Bool, true, false, cond, ◌&&◌, ◌||◌}
use mathlib.Core.Logic.{◌⊎◌, inl, inr, ⊎_elim}
use mathlib.Core.List.{List, [], ◌∷◌, ◌++◌, append_assoc}
use Prim.Native.Nat.{ℕ, zero, suc, ◌+◌, ◌-◌, ◌≤◌, ◌<◌, zero-le, suc-le-suc}
use native.Mathlib.Nat.{zero-lt-suc}
use native.Mathlib.Omega.{arith}
use borrow.Author.Tests.{le-ltb, lt-ltb, ltb-true, eqb-true, eq-eqb}
use lib.Dec.{eqb, ltb}
use lib.ListN.{length, take, drop, set}
use lib.Seq.{take-take, paste, length-take-le}
use Rattle.std.specs.Prelude.{slice_get, IsSomeAnd}
use Rattle.std.proofs.lemmas.List.{drop-take}
use Rattle.lists.specs.Lists.{all, rising, insert, insert_late, put_in}
use Rattle.lists.proofs.Bools.{and_left_lem, and_right, or_cases, or_true_left, or_true_right}
use Rattle.lists.proofs.Moves.{opened}
use Rattle.lists.proofs.Order.{rising_tail, from_less}
use Rattle.lists.proofs.Rises.{first_before}

module _ {A : Type 0} (r : A → A → Bool) (x : A) where
  -- x goes before each from the place k on, and not before the one before that place
  abbrev pub Behind : ℕ → List A → Type 0
  Behind k l = (i : ℕ) → k ≤ i → i < length l → IsSomeAnd (slice_get l i) (λ (e : A). r x e ≡ true)

  abbrev pub Stops : ℕ → List A → Type 0
  Stops k l = 0 < k → IsSomeAnd (slice_get l (k - 1)) (λ (e : A). r x e ≡ false)

  behind_all : (l : List A) → Behind 0 l → all (r x) l ≡ true
  behind_all [] b = refl
  behind_all (y ∷ l) b =
      ap₂ (λ (s t : Bool). s && t) (b 0 zero-le (zero-lt-suc (length l))) (behind_all l (λ i h m. b (suc i) zero-le (suc-le-suc m)))

  one_fails : (l : List A) (i : ℕ) → IsSomeAnd (slice_get l i) (λ (e : A). r x e ≡ false) → all (r x) l ≡ false
  one_fails [] i h = absurd h
  one_fails (y ∷ l) zero h = ap (λ (t : Bool). t && all (r x) l) h
  one_fails (y ∷ l) (suc i) h = go (r x y) (one_fails l i h)
    where
      go : (t : Bool) → all (r x) l ≡ false → (t && all (r x) l) ≡ false
      go true e = e
      go false e = refl

  late_at : (l : List A) (k : ℕ) → k ≤ length l → Behind k l → Stops k l → insert_late r x l ≡ take k l ++ (x ∷ drop k l)
  late_at [] zero h b s = refl
  late_at [] (suc k) h b s = let f : ⊥ = omega arith in absurd f
  late_at (y ∷ l) zero h b s = ap (λ (t : Bool). cond t (x ∷ y ∷ l) (y ∷ insert_late r x l)) (behind_all (y ∷ l) b)
  late_at (y ∷ l) (suc k) h b s =
      let one : suc k - 1 ≡ k = omega arith in
      let here = subst (λ (j : ℕ). IsSomeAnd (slice_get (y ∷ l) j) (λ (e : A). r x e ≡ false)) one (s (zero-lt-suc k)) in
      let rest = late_at l k (omega arith) (λ i m n. b (suc i) (suc-le-suc m) (suc-le-suc n)) (λ pos. stops pos here) in
      ap (λ (t : Bool). cond t (x ∷ y ∷ l) (y ∷ insert_late r x l)) (one_fails (y ∷ l) k here) ∙ ap (λ (t : List A). y ∷ t) rest
    where
      stops : 0 < k → IsSomeAnd (slice_get (y ∷ l) k) (λ (e : A). r x e ≡ false) → IsSomeAnd (slice_get l (k - 1)) (λ (e : A). r x e ≡ false)
      stops pos e = let up : k ≡ suc (k - 1) = omega arith in subst (λ (j : ℕ). IsSomeAnd (slice_get (y ∷ l) j) (λ (e : A). r x e ≡ false)) up e

  -- those from k up to n moved up by one place, and x put in at k
  moved_put : (l : List A) (n k : ℕ) → n < length l → k ≤ n
      → set (paste l (k + 1) (drop k l) (n - k)) k x ≡ (take k (take n l) ++ (x ∷ drop k (take n l))) ++ drop (n + 1) l
  moved_put l n k fits le =
      opened x l k (n - k) (omega arith)
      ∙ ap₂ (λ (s t : List A). s ++ (x ∷ t)) (sym (take-take k n l le)) (ap₂ (λ (s t : List A). s ++ t) (sym between) end)
      ∙ sym (append_assoc (take k (take n l)) (x ∷ drop k (take n l)) (drop (n + 1) l))
    where
      between : drop k (take n l) ≡ take (n - k) (drop k l)
      between = let whole : n ≡ k + (n - k) = omega arith in ap (λ (m : ℕ). drop k (take m l)) whole ∙ drop-take k (n - k) l

      end : drop (k + 1 + (n - k)) l ≡ drop (n + 1) l
      end = let same : k + 1 + (n - k) ≡ n + 1 = omega arith in ap (λ (m : ℕ). drop m l) same

  -- where the elements rise, it is the place before the first that x goes before
  module _ (trans : (x y z : A) → r x y ≡ true → r y z ≡ true → r x z ≡ true) where
    late_first : (l : List A) → rising r l ≡ true → insert_late r x l ≡ insert r x l
    late_first [] up = refl
    late_first (y ∷ l) up = go (r x y) refl (late_first l (rising_tail r y l up))
      where
        before_all : r x y ≡ true → all (r x) l ≡ true
        before_all e = first_before r trans x l (from_less r trans x y l e up)

        go : (t : Bool) → r x y ≡ t → insert_late r x l ≡ insert r x l
            → cond (t && all (r x) l) (x ∷ y ∷ l) (y ∷ insert_late r x l) ≡ cond t (x ∷ y ∷ l) (y ∷ insert r x l)
        go true e rest = ap (λ (t : Bool). cond t (x ∷ y ∷ l) (y ∷ insert_late r x l)) (before_all e)
        go false e rest = ap (λ (t : List A). y ∷ t) rest

  put_behind : (l : List A) (n k : ℕ) → n < length l → k ≤ length (take n l) → Behind k (take n l) → Stops k (take n l)
      → set (paste l (k + 1) (drop k l) (n - k)) k x ≡ insert_late r x (take n l) ++ drop (n + 1) l
  put_behind l n k fits le b s =
      let used = length-take-le n l (omega arith) in
      moved_put l n k fits (omega arith) ∙ ap (λ (t : List A). t ++ drop (n + 1) l) (sym (late_at (take n l) k le b s))

  -- ---- what the array holds

  pub put_none : (n : ℕ) (l : List A) → length l ≤ n → put_in r x n l ≡ l
  unfolding put_in
  put_none n l h = ap (λ (t : Bool). cond t (insert_late r x (take n l) ++ drop (n + 1) l) l) (le-ltb n (length l) h)

  pub put_one : (n : ℕ) (l : List A) → n < length l → put_in r x n l ≡ insert_late r x (take n l) ++ drop (n + 1) l
  unfolding put_in
  put_one n l h = ap (λ (t : Bool). cond t (insert_late r x (take n l) ++ drop (n + 1) l) l) (lt-ltb n (length l) h)

  pub put_is : (a l : List A) (n k : ℕ) → n < length l → k ≤ length (take n l) → Behind k (take n l) → Stops k (take n l)
      → a ≡ paste l (k + 1) (drop k l) (n - k) → set a k x ≡ put_in r x n l
  put_is a l n k fits le b s e = ap (λ (t : List A). set t k x) e ∙ put_behind l n k fits le b s ∙ sym (put_one n l fits)

  -- where those in use rise
  pub put_rising : ((x y z : A) → r x y ≡ true → r y z ≡ true → r x z ≡ true) → (n : ℕ) (l : List A) → n < length l → rising r (take n l) ≡ true
      → put_in r x n l ≡ insert r x (take n l) ++ drop (n + 1) l
  put_rising trans n l h up = put_one n l h ∙ ap (λ (t : List A). t ++ drop (n + 1) l) (late_first trans (take n l) up)

-- ---- an order by one number, and at equal ones by another, as names of two numbers have

module _ {A : Type 0} (first second : A → ℕ) where
  abbrev before : A → A → Bool
  before x y = ltb (first x) (first y) || eqb (first x) (first y) && ltb (second x) (second y)

  Goes : A → A → Type 0
  Goes x y = (first x < first y) ⊎ ((first x ≡ first y) × (second x < second y))

  goes : (x y : A) → before x y ≡ true → Goes x y
  unfolding Goes
  goes x y e =
      ⊎_elim (λ q. inl (ltb-true (first x) (first y) q))
      (λ q.
      let same = eqb (first x) (first y) in
      inr (eqb-true (first x) (first y) (and_left_lem same _ q), ltb-true (second x) (second y) (and_right same _ q)))
      (or_cases (ltb (first x) (first y)) _ e)

  pub by_two : (x y z : A) → before x y ≡ true → before y z ≡ true → before x z ≡ true
  unfolding Goes
  by_two x y z a b = go (goes x y a) (goes y z b)
    where
      less : first x < first z → before x z ≡ true
      less l = or_true_left (ltb (first x) (first z)) _ (lt-ltb (first x) (first z) l)

      same : first x ≡ first z → second x < second z → before x z ≡ true
      same e l =
          or_true_right (ltb (first x) (first z)) _
          (ap₂ (λ (s t : Bool). s && t) (eq-eqb (first x) (first z) e) (lt-ltb (second x) (second z) l))

      go : Goes x y → Goes y z → before x z ≡ true
      go (inl l) (inl m) = less (omega arith)
      go (inl l) (inr m) = less (omega (arith, m.0))
      go (inr l) (inl m) = less (omega (arith, l.0))
      go (inr l) (inr m) = same (l.0 ∙ m.0) (omega (arith, l.1, m.1))
