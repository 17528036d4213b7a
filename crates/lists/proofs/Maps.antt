-- A list of what each element stands for: the first of it, the rest, and what tests and changes say of it. Assumes nothing.
use mathlib.Core.Path.{◌≡◌, refl, sym, ap, ap₂, ◌∙◌, subst}
use mathlib.Core.Bool.{Bool, true, false, ◌&&◌, ◌||◌}
use mathlib.Core.List.{List, [], ◌∷◌, ◌++◌, map}
use Prim.Native.Nat.{ℕ, zero, suc, ◌-◌}
use lib.ListN.{length, length-map, take, drop, set, replicate, take-append-drop}
use Rattle.lists.specs.Lists.{all, any, rising, rising_from, insert, keep, pad}
use Rattle.lists.proofs.Bools.{and_left_lem, and_right}
use Rattle.lists.proofs.Listed.{all_member, member_all, all_append}
use Rattle.lists.proofs.MemberLaws.{map_append}

module _ {A B : Type 0} (f : A → B) where
  pub take_map : (n : ℕ) (l : List A) → take n (map f l) ≡ map f (take n l)
  take_map zero l = refl
  take_map (suc n) [] = refl
  take_map (suc n) (x ∷ l) = ap (λ (t : List B). f x ∷ t) (take_map n l)

  pub drop_map : (n : ℕ) (l : List A) → drop n (map f l) ≡ map f (drop n l)
  drop_map zero l = refl
  drop_map (suc n) [] = refl
  drop_map (suc n) (x ∷ l) = drop_map n l

  pub all_of_lem : (p : B → Bool) (l : List A) → all p (map f l) ≡ all (λ (x : A). p (f x)) l
  all_of_lem p [] = refl
  all_of_lem p (x ∷ l) = ap (λ (b : Bool). p (f x) && b) (all_of_lem p l)

  pub any_of : (p : B → Bool) (l : List A) → any p (map f l) ≡ any (λ (x : A). p (f x)) l
  any_of p [] = refl
  any_of p (x ∷ l) = ap (λ (b : Bool). p (f x) || b) (any_of p l)

  rising_from_lem : (r : B → B → Bool) (w : A) (l : List A) → rising_from r (f w) (map f l) ≡ rising_from (λ (x y : A). r (f x) (f y)) w l
  rising_from_lem r w [] = refl
  rising_from_lem r w (x ∷ l) = ap (λ (b : Bool). r (f w) (f x) && b) (rising_from_lem r x l)

  pub rising_of : (r : B → B → Bool) (l : List A) → rising r (map f l) ≡ rising (λ (x y : A). r (f x) (f y)) l
  rising_of r [] = refl
  rising_of r (x ∷ l) = rising_from_lem r x l

  pub keep_of : (p : B → Bool) (l : List A) → keep p (map f l) ≡ map f (keep (λ (x : A). p (f x)) l)
  keep_of p [] = refl
  keep_of p (x ∷ l) = go (keep_of p l) (p (f x)) refl
    where
      go : keep p (map f l) ≡ map f (keep (λ (y : A). p (f y)) l) → (b : Bool) → p (f x) ≡ b → keep p (f x ∷ map f l) ≡ map f (keep (λ (y : A). p (f y)) (x ∷ l))
      go rest true e = rw e (ap (λ (t : List B). f x ∷ t) rest)
      go rest false e = rw e rest

  pub insert_of : (r : B → B → Bool) (x : A) (l : List A) → insert r (f x) (map f l) ≡ map f (insert (λ (y z : A). r (f y) (f z)) x l)
  insert_of r x [] = refl
  insert_of r x (y ∷ l) = go (insert_of r x l) (r (f x) (f y)) refl
    where
      go : insert r (f x) (map f l) ≡ map f (insert (λ (v z : A). r (f v) (f z)) x l) → (b : Bool) → r (f x) (f y) ≡ b
          → insert r (f x) (f y ∷ map f l) ≡ map f (insert (λ (v z : A). r (f v) (f z)) x (y ∷ l))
      go rest true e = rw e refl
      go rest false e = rw e (ap (λ (t : List B). f y ∷ t) rest)

  replicate_of : (n : ℕ) (z : A) → map f (replicate n z) ≡ replicate n (f z)
  replicate_of zero z = refl
  replicate_of (suc n) z = ap (λ (t : List B). f z ∷ t) (replicate_of n z)

  pub pad_of : (n : ℕ) (z : A) (l : List A) → map f (pad n z l) ≡ pad n (f z) (map f l)
  pad_of n z l =
      map_append f l (replicate (n - length l) z)
      ∙ ap (λ (t : List B). map f l ++ t) (replicate_of (n - length l) z ∙ ap (λ (k : ℕ). replicate (n - k) (f z)) (sym (length-map l f)))

  -- ---- one element taken out, put in, or set

  pub cut_of : (at k : ℕ) (z : A) (l : List A) → map f (take at l ++ drop k l ++ (z ∷ [])) ≡ take at (map f l) ++ drop k (map f l) ++ (f z ∷ [])
  cut_of at k z l =
      map_append f (take at l ++ drop k l) (z ∷ [])
      ∙ ap (λ (t : List B). t ++ (f z ∷ [])) (map_append f (take at l) (drop k l) ∙ ap₂ (λ (a b : List B). a ++ b) (sym (take_map at l)) (sym (drop_map k l)))

  pub put_of : (n at : ℕ) (x : A) (l : List A) → map f (take n (take at l ++ (x ∷ drop at l))) ≡ take n (take at (map f l) ++ (f x ∷ drop at (map f l)))
  put_of n at x l =
      sym (take_map n (take at l ++ (x ∷ drop at l)))
      ∙ ap (take n) (map_append f (take at l) (x ∷ drop at l) ∙ ap₂ (λ (a b : List B). a ++ (f x ∷ b)) (sym (take_map at l)) (sym (drop_map at l)))

  pub set_of_lem : (l : List A) (i : ℕ) (x : A) → map f (set l i x) ≡ set (map f l) i (f x)
  set_of_lem [] i x = refl
  set_of_lem (y ∷ l) zero x = refl
  set_of_lem (y ∷ l) (suc i) x = ap (λ (t : List B). f y ∷ t) (set_of_lem l i x)

-- a list comes back where each element that passes a test does
pub map_there : {A B : Type 0} (f : A → B) (g : B → A) (p : A → Bool) → ((x : A) → p x ≡ true → g (f x) ≡ x) → (l : List A) → all p l ≡ true → map g (map f l) ≡ l
map_there f g p there [] e = refl
map_there {A} f g p there (x ∷ l) e = ap₂ (λ (y : A) (k : List A). y ∷ k) (there x (and_left_lem (p x) (all p l) e)) (map_there f g p there l (and_right (p x) (all p l) e))

-- a test of all places, by one of the first and one of the others
pub all_parts : {A : Type 0} (first rest p : A → Bool) → ((x : A) → first x ≡ true → p x ≡ true) → ((x : A) → rest x ≡ true → p x ≡ true)
    → (n : ℕ) (l : List A) → all first (take n l) ≡ true → all rest (drop n l) ≡ true → all p l ≡ true
all_parts {A} first rest p from_First from-rest n l a b =
    subst (λ (t : List A). all p t ≡ true) (take-append-drop n l)
    (all_append p (take n l) (drop n l)
    (member_all p (take n l) (λ x i. from_First x (all_member first (take n l) a x i)))
    (member_all p (drop n l) (λ x i. from-rest x (all_member rest (drop n l) b x i))))
