-- Tests of a list's elements, by its members; and who is in a list after one is put in. Assumes nothing.
use mathlib.Core.Path.{◌≡◌, refl, ap, ◌∙◌}
use mathlib.Core.Logic.{◌⊎◌, inl, inr}
use mathlib.Core.Bool.{Bool, true, false, cond, false≢true}
use mathlib.Core.List.{List, [], ◌∷◌, ◌++◌}
use Prim.Native.Nat.{ℕ, zero, suc, ◌<◌}
use native.Mathlib.Nat.{zero-lt-suc}
use lib.ListN.{length, drop}
use Rattle.lists.specs.Lists.{all, any, insert, keep}
use Rattle.lists.specs.Members.{In}
use Rattle.lists.proofs.MemberLaws.{in_keep}
use Rattle.lists.proofs.Bools.{and_left_lem, and_right, or_left_lem, or_right, or_cases}

module _ {A : Type 0} (p : A → Bool) where
  pub all_member : (l : List A) → all p l ≡ true → (x : A) → In x l → p x ≡ true
  all_member [] a x h = absurd h
  all_member (y ∷ l) a x (inl e) = ap p e ∙ and_left_lem (p y) (all p l) a
  all_member (y ∷ l) a x (inr h) = all_member l (and_right (p y) (all p l) a) x h

  pub member_all : (l : List A) → ((x : A) → In x l → p x ≡ true) → all p l ≡ true
  member_all [] f = refl
  member_all (y ∷ l) f = rw (f y (inl refl), member_all l (λ x h. f x (inr h)))

  pub all_drop : (k : ℕ) (l : List A) → all p l ≡ true → all p (drop k l) ≡ true
  all_drop zero l a = a
  all_drop (suc k) [] a = refl
  all_drop (suc k) (x ∷ l) a = all_drop k l (and_right (p x) (all p l) a)

  pub all_append : (a b : List A) → all p a ≡ true → all p b ≡ true → all p (a ++ b) ≡ true
  all_append [] b e f = f
  all_append (x ∷ a) b e f = rw (and_left_lem (p x) (all p a) e, all_append a b (and_right (p x) (all p a) e) f)

  pub all_keep : (q : A → Bool) (l : List A) → all p l ≡ true → all p (keep q l) ≡ true
  all_keep q l a = member_all (keep q l) (λ x h. all_member l a x (in_keep q l x h).0)

  pub none_member : (l : List A) → any p l ≡ false → (x : A) → In x l → p x ≡ false
  none_member [] a x h = absurd h
  none_member (y ∷ l) a x (inl e) = ap p e ∙ or_left_lem (p y) (any p l) a
  none_member (y ∷ l) a x (inr h) = none_member l (or_right (p y) (any p l) a) x h

  pub member_none : (l : List A) → ((x : A) → In x l → p x ≡ false) → any p l ≡ false
  member_none [] f = refl
  member_none (y ∷ l) f = rw (f y (inl refl), member_none l (λ x h. f x (inr h)))

  pub some_member : (l : List A) → any p l ≡ true → (x : A) × In x l × (p x ≡ true)
  some_member [] a = absurd (false≢true a)
  some_member (y ∷ l) a = go (some_member l) (or_cases (p y) (any p l) a)
    where
      go : (any p l ≡ true → (x : A) × In x l × (p x ≡ true)) → (p y ≡ true) ⊎ (any p l ≡ true) → (x : A) × In x (y ∷ l) × (p x ≡ true)
      go ih (inl e) = (y, inl refl, e)
      go ih (inr e) = let r = ih e in (r.0, inr r.1, r.2)

-- what passes a test is kept again; what fails it is not kept
pub keep_again : {A : Type 0} (p : A → Bool) (l : List A) → all p l ≡ true → keep p l ≡ l
keep_again p [] a = refl
keep_again p (x ∷ l) a = rw (and_left_lem (p x) (all p l) a, keep_again p l (and_right (p x) (all p l) a))

pub keep_none : {A : Type 0} (p : A → Bool) (l : List A) → any p l ≡ false → keep p l ≡ []
keep_none p [] a = refl
keep_none p (x ∷ l) a = rw (or_left_lem (p x) (any p l) a, keep_none p l (or_right (p x) (any p l) a))

pub in_some : {A : Type 0} (l : List A) (x : A) → In x l → 0 < length l
in_some [] x h = absurd h
in_some (y ∷ l) x h = zero-lt-suc (length l)

module _ {A : Type 0} (r : A → A → Bool) (x : A) where
  pub in_insert : (l : List A) (y : A) → In y (insert r x l) → (y ≡ x) ⊎ In y l
  in_insert [] y (inl e) = inl e
  in_insert [] y (inr h) = inr h
  in_insert (z ∷ l) y h = go (r x z) h (in_insert l y)
    where
      go : (t : Bool) → In y (cond t (x ∷ z ∷ l) (z ∷ insert r x l)) → (In y (insert r x l) → (y ≡ x) ⊎ In y l) → (y ≡ x) ⊎ In y (z ∷ l)
      go true (inl e) ih = inl e
      go true (inr h) ih = inr h
      go false (inl e) ih = inr (inl e)
      go false (inr h) ih = deeper (ih h)
        where
          deeper : (y ≡ x) ⊎ In y l → (y ≡ x) ⊎ In y (z ∷ l)
          deeper (inl e) = inl e
          deeper (inr h) = inr (inr h)

  pub insert_new : (l : List A) → In x (insert r x l)
  insert_new [] = inl refl
  insert_new (z ∷ l) = go (r x z) (insert_new l)
    where
      go : (t : Bool) → In x (insert r x l) → In x (cond t (x ∷ z ∷ l) (z ∷ insert r x l))
      go true h = inl refl
      go false h = inr h

  pub insert_old : (l : List A) (y : A) → In y l → In y (insert r x l)
  insert_old [] y h = absurd h
  insert_old (z ∷ l) y h = go (r x z) h (insert_old l y)
    where
      go : (t : Bool) → In y (z ∷ l) → (In y l → In y (insert r x l)) → In y (cond t (x ∷ z ∷ l) (z ∷ insert r x l))
      go true h ih = inr h
      go false (inl e) ih = inl e
      go false (inr h) ih = inr (ih h)
