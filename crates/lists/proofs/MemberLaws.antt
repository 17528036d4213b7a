-- The laws of membership and of the values of a list, and the pigeonhole. Assumes nothing.
use mathlib.Core.Path.{◌≡◌, refl, sym, ap, ◌∙◌, subst}
use mathlib.Core.Logic.{◌⊎◌, inl, inr}
use mathlib.Core.Bool.{Bool, true, false, not, cond, ◌&&◌}
use mathlib.Core.List.{List, [], ◌∷◌, ◌++◌, map}
use Prim.Native.Nat.{ℕ, zero, suc, ◌≤◌, ◌<◌}
use native.Mathlib.Decide.{ℕ_discrete}
use native.Mathlib.Nat.{not-suc-le-zero}
use native.Mathlib.Omega.{arith}
use borrow.Author.Tests.{eq-eqb, ne_eqb}
use lib.Dec.{eqb}
use lib.ListN.{length}
use Rattle.lists.specs.Searches.{count}
use Rattle.lists.specs.Lists.{keep}
use Rattle.lists.specs.Members.{In, All, Distinct}

module _ {A : Type 0} where
  pub all_in : (Q : A → Type 0) (l : List A) → All Q l → (x : A) → In x l → Q x
  all_in Q [] a x h = absurd h
  all_in Q (y ∷ l) a x (inl e) = subst Q (sym e) a.0
  all_in Q (y ∷ l) a x (inr h) = all_in Q l a.1 x h

  pub in_all : (Q : A → Type 0) (l : List A) → ((x : A) → In x l → Q x) → All Q l
  in_all Q [] f = tt
  in_all Q (y ∷ l) f = (f y (inl refl), in_all Q l (λ x h. f x (inr h)))

  pub all_map : (Q R : A → Type 0) → ((x : A) → Q x → R x) → (l : List A) → All Q l → All R l
  all_map Q R f [] a = tt
  all_map Q R f (y ∷ l) a = (f y a.0, all_map Q R f l a.1)

  pub none_in : (l : List A) → ((x : A) → In x l → ⊥) → l ≡ []
  none_in [] f = refl
  none_in (x ∷ l) f = absurd (f x (inl refl))

  pub in_left : (a b : List A) (x : A) → In x a → In x (a ++ b)
  in_left (y ∷ a) b x (inl e) = inl e
  in_left (y ∷ a) b x (inr h) = inr (in_left a b x h)
  in_left [] b x h = absurd h

  pub in_right : (a b : List A) (x : A) → In x b → In x (a ++ b)
  in_right [] b x h = h
  in_right (y ∷ a) b x h = inr (in_right a b x h)

  pub in_append : (a b : List A) (x : A) → In x (a ++ b) → In x a ⊎ In x b
  in_append [] b x h = inr h
  in_append (y ∷ a) b x (inl e) = inl (inl e)
  in_append (y ∷ a) b x (inr h) = deeper (in_append a b x h)
    where
      deeper : In x a ⊎ In x b → In x (y ∷ a) ⊎ In x b
      deeper (inl i) = inl (inr i)
      deeper (inr i) = inr i

  -- what a test keeps is in the list and passes, and all of that is kept
  pub in_keep : (p : A → Bool) (l : List A) (x : A) → In x (keep p l) → In x l × (p x ≡ true)
  in_keep p [] x h = absurd h
  in_keep p (y ∷ l) x h = go (p y) refl h (in_keep p l x)
    where
      go : (t : Bool) → p y ≡ t → In x (cond t (y ∷ keep p l) (keep p l)) → (In x (keep p l) → In x l × (p x ≡ true)) → In x (y ∷ l) × (p x ≡ true)
      go true e (inl q) ih = (inl q, ap p q ∙ e)
      go true e (inr i) ih = let r = ih i in (inr r.0, r.1)
      go false e i ih = let r = ih i in (inr r.0, r.1)

  pub keep_in : (p : A → Bool) (l : List A) (x : A) → In x l → p x ≡ true → In x (keep p l)
  keep_in p [] x h e = absurd h
  keep_in p (y ∷ l) x (inl q) e = subst (λ (t : Bool). In x (cond t (y ∷ keep p l) (keep p l))) (sym (ap p (sym q) ∙ e)) (inl q)
  keep_in p (y ∷ l) x (inr i) e = go (p y) (keep_in p l x i e)
    where
      go : (t : Bool) → In x (keep p l) → In x (cond t (y ∷ keep p l) (keep p l))
      go true i = inr i
      go false i = i

-- ---- the pigeonhole

-- the test without x
without : ℕ → (ℕ → Bool) → ℕ → Bool
without x f y = not (eqb x y) && f y

without_other : (x y : ℕ) (f : ℕ → Bool) → (x ≡ y → ⊥) → without x f y ≡ f y
unfolding without
without_other x y f ne = ap (λ (t : Bool). not t && f y) (ne_eqb x y ne)

without_same : (x y : ℕ) (f : ℕ → Bool) → x ≡ y → without x f y ≡ false
unfolding without
without_same x y f e = ap (λ (t : Bool). not t && f y) (eq-eqb x y e)

-- below x nothing changes
count_below : (x : ℕ) (f : ℕ → Bool) (n : ℕ) → n ≤ x → count n (without x f) ≡ count n f
unfolding count
count_below x f zero h = refl
count_below x f (suc n) h =
    let same : without x f n ≡ f n = without_other x n f (λ e. omega arith) in
    let rest : count n (without x f) ≡ count n f = count_below x f n (omega arith) in
    rw (same, rest)

count_without : (x : ℕ) (f : ℕ → Bool) (n : ℕ) → x < n → f x ≡ true → count n f ≡ suc (count n (without x f))
unfolding count
count_without x f zero h t = absurd (not-suc-le-zero h)
count_without x f (suc n) h t = go (λ lt. count_without x f n lt t) (ℕ_discrete x n)
  where
    go : (x < n → count n f ≡ suc (count n (without x f))) → Dec (x ≡ n) → count (suc n) f ≡ suc (count (suc n) (without x f))
    go ih (yes e) =
        let here : f n ≡ true = ap f (sym e) ∙ t in
        let gone : without x f n ≡ false = without_same x n f e in
        let rest : count n (without x f) ≡ count n f = count_below x f n (omega arith) in
        rw (here, gone, rest)
    go ih (no ne) = other (f n) refl
      where
        rest : count n f ≡ suc (count n (without x f))
        rest = ih (omega arith)

        other : (b : Bool) → f n ≡ b → count (suc n) f ≡ suc (count (suc n) (without x f))
        other true q = rw (without_other x n f ne, q, rest)
        other false q = rw (without_other x n f ne, q, rest)

-- distinct numbers below n that pass a test are no more than those that do
pub pigeon : (n : ℕ) (f : ℕ → Bool) (l : List ℕ) → Distinct l → All (λ x. (x < n) × (f x ≡ true)) l → length l ≤ count n f
pigeon n f [] d a = omega arith
pigeon n f (x ∷ l) d a =
    let c = count_without x f n a.0.0 a.0.1 in
    let ih = pigeon n (without x f) l d.1 (in_all _ l (λ y h. still y h (all_in _ l a.1 y h))) in
    omega arith
  where
    still : (y : ℕ) → In y l → (y < n) × (f y ≡ true) → (y < n) × (without x f y ≡ true)
    still y h r = (r.0, without_other x y f (λ e. d.0 (subst (λ (z : ℕ). In z l) (sym e) h)) ∙ r.1)

count_all : (n : ℕ) → count n (λ x. true) ≡ n
unfolding count
count_all zero = refl
count_all (suc n) = ap suc (count_all n)

-- distinct numbers below n are at most n
pub pigeon_all : (n : ℕ) (l : List ℕ) → Distinct l → All (λ x. x < n) l → length l ≤ n
pigeon_all n l d a =
    let c = count_all n in
    let p = pigeon n (λ x. true) l d (all_map _ _ (λ x h. (h, refl)) l a) in
    omega arith

-- ---- who is in a list of values

pub in_map : {A B : Type 0} (f : A → B) (l : List A) (x : A) → In x l → In (f x) (map f l)
in_map f [] x i = absurd i
in_map f (y ∷ l) x (inl e) = inl (ap f e)
in_map f (y ∷ l) x (inr i) = inr (in_map f l x i)

pub map_in : {A B : Type 0} (f : A → B) (l : List A) (y : B) → In y (map f l) → (x : A) × In x l × (y ≡ f x)
map_in f [] y i = absurd i
map_in f (x ∷ l) y (inl e) = (x, inl refl, e)
map_in f (x ∷ l) y (inr i) = let r = map_in f l y i in (r.0, inr r.1, r.2)

-- ---- the values of a list

pub map_append : {A B : Type 0} (f : A → B) (l r : List A) → map f (l ++ r) ≡ map f l ++ map f r
map_append f [] r = refl
map_append {A} {B} f (x ∷ l) r = ap (λ (t : List B). f x ∷ t) (map_append f l r)
