-- A history rises by stamp, so those that are due stand in front of those that wait. Assumes nothing.
use mathlib.Core.Path.{◌≡◌, refl, sym, ap}
use mathlib.Core.Bool.{Bool, true, false, not}
use mathlib.Core.List.{List, [], ◌∷◌, ◌++◌}
use Prim.Native.Nat.{ℕ, ◌+◌, ◌<◌}
use native.Mathlib.Numerals.{add-one}
use lib.ListN.{length, take, drop, get_or}
use lib.Seq.{take-suc}
use Rattle.lists.specs.Lists.{rising, keep}
use Rattle.lists.proofs.Order.{rising_tail}
use Rattle.lists.proofs.Rises.{none_pass}
use Rattle.host.proofs.Fronts as host
use Rattle.service.specs.declared.HeldMemory.{HeldMemory}
use Rattle.service.specs.Memory.{held_from}
use Rattle.service.specs.Inside.{before_in, due_in}

-- ---- a list that rises, and a test that an element passes with each later one

module _ {A : Type 0} (r : A → A → Bool) (p : A → Bool) (with-later : (x y : A) → r x y ≡ true → p y ≡ true → p x ≡ true) where
  -- those that pass are the first, and those that fail the others
  pub in_front_lem : (l : List A) → rising r l ≡ true → (take (length (keep p l)) l ≡ keep p l) × (drop (length (keep p l)) l ≡ keep (λ (y : A). not (p y)) l)
  in_front_lem [] up = (refl, refl)
  in_front_lem (x ∷ l) up = go (in_front_lem l (rising_tail r x l up)) (p x) refl
    where
      k : ℕ
      k = length (keep p (x ∷ l))

      go : (take (length (keep p l)) l ≡ keep p l) × (drop (length (keep p l)) l ≡ keep (λ (y : A). not (p y)) l) → (t : Bool) → p x ≡ t
          → (take k (x ∷ l) ≡ keep p (x ∷ l)) × (drop k (x ∷ l) ≡ keep (λ (y : A). not (p y)) (x ∷ l))
      go rest true e = (rw e (ap (λ (t : List A). x ∷ t) rest.0), rw e rest.1)
      go rest false e = let none = none_pass r p with-later x l up e in (rw none.0, rw none.0 (sym none.1))

-- ---- the first elements, with one more

module _ {A : Type 0} where
  pub take_next : (d : A) (l : List A) (i : ℕ) → i < length l → take (i + 1) l ≡ take i l ++ (get_or l i d ∷ [])
  take_next d l i h = rw add-one (take-suc l i d h)

-- ---- the places of a history

pub due_before : (Δ u : ℕ) (x y : HeldMemory) → before_in x y ≡ true → due_in Δ u y ≡ true → due_in Δ u x ≡ true
due_before Δ u x y = host.due_before Δ u (held_from x) (held_from y)
