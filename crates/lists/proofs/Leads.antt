-- The elements in front that pass a test: a loop that counts them, and that they are all that pass, where an element passes with each later one.
-- Assumes nothing.
use mathlib.Core.Path.{◌≡◌, refl, sym, ap}
use mathlib.Core.Bool.{Bool, true, false, cond}
use mathlib.Core.List.{List, [], ◌∷◌, map}
use Prim.Native.Nat.{ℕ, suc, ◌+◌, ◌≤◌}
use native.Mathlib.Omega.{arith}
use lib.ListN.{length, drop}
use Rattle.lists.specs.Lists.{rising, keep, lead}
use Rattle.lists.proofs.Loops.{left_none}
use Rattle.lists.proofs.Order.{rising_tail}
use Rattle.lists.proofs.Rises.{none_pass}

-- ---- a loop that counts them: what it counted, with what is left to count, is the whole, n; f tells what each element stands for

module _ {A B : Type 0} (f : A → B) (p : B → Bool) (l : List A) (i : ℕ) {n : ℕ} (inv : i + length (lead p (map f (drop i l))) ≡ n) where
  module _ (x : A) (next : drop i l ≡ x ∷ drop (i + 1) l) where
    pub lead_turn : p (f x) ≡ true → i + 1 + length (lead p (map f (drop (i + 1) l))) ≡ n
    lead_turn e =
        let more : i + length (lead p (map f (x ∷ drop (i + 1) l))) ≡ n = rw next at inv in
        let one : i + suc (length (lead p (map f (drop (i + 1) l)))) ≡ n = rw e at more in
        omega arith

    pub lead_stop : p (f x) ≡ false → i ≡ n
    lead_stop e =
        let more : i + length (lead p (map f (x ∷ drop (i + 1) l))) ≡ n = rw next at inv in
        let none : i + 0 ≡ n = rw e at more in
        omega arith

  pub lead_end : length l ≤ i → i ≡ n
  lead_end h = let none : i + 0 ≡ n = rw (left_none l i h) at inv in omega arith

-- ---- a list that rises, and a test that an element passes with each later one

module _ {A : Type 0} (r : A → A → Bool) (p : A → Bool) (with-later : (x y : A) → r x y ≡ true → p y ≡ true → p x ≡ true) where
  -- those in front are all that pass
  pub lead_all : (l : List A) → rising r l ≡ true → lead p l ≡ keep p l
  lead_all [] up = refl
  lead_all (x ∷ l) up = go (lead_all l (rising_tail r x l up)) (p x) refl
    where
      go : lead p l ≡ keep p l → (t : Bool) → p x ≡ t → cond t (x ∷ lead p l) [] ≡ cond t (x ∷ keep p l) (keep p l)
      go rest true e = ap (λ (t : List A). x ∷ t) rest
      go rest false e = let none = none_pass r p with-later x l up e in sym (rw e at none.0)
