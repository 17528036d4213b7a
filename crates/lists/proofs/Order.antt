-- Rising lists stay rising: when one is put in under a new name, and when some are kept. Assumes nothing.
use mathlib.Core.Path.{◌≡◌, refl}
use mathlib.Core.Bool.{Bool, true, false, cond}
use mathlib.Core.List.{List, [], ◌∷◌, ◌++◌}
use Rattle.lists.specs.Lists.{any, rising_from, rising, insert, keep}
use Rattle.lists.proofs.Bools.{and_left_lem, and_right, or_left_lem, or_right}

-- x and any element that does not bear its name, p, stand in one order or the other
module _ {A : Type 0} (r : A → A → Bool) (p : A → Bool) (x : A) (total : (z : A) → p z ≡ false → r x z ≡ false → r z x ≡ true) where
  insert_from : (y : A) (l : List A) → r y x ≡ true → rising_from r y l ≡ true → any p l ≡ false → rising_from r y (insert r x l) ≡ true
  insert_from y [] a up none = rw a
  insert_from y (z ∷ l) a up none =
      let yz : r y z ≡ true = and_left_lem (r y z) (rising_from r z l) up in
      let zl : rising_from r z l ≡ true = and_right (r y z) (rising_from r z l) up in
      go (r x z) refl yz zl (λ q. insert_from z l (total z (or_left_lem (p z) (any p l) none) q) zl (or_right (p z) (any p l) none))
    where
      go : (t : Bool) → r x z ≡ t → r y z ≡ true → rising_from r z l ≡ true → (r x z ≡ false → rising_from r z (insert r x l) ≡ true)
          → rising_from r y (cond t (x ∷ z ∷ l) (z ∷ insert r x l)) ≡ true
      go true e yz zl f = rw (a, e, zl)
      go false e yz zl f = rw (yz, f e)

  pub insert_rising : (l : List A) → rising r l ≡ true → any p l ≡ false → rising r (insert r x l) ≡ true
  insert_rising [] up none = refl
  insert_rising (z ∷ l) up none =
      go (r x z) refl (λ q. insert_from z l (total z (or_left_lem (p z) (any p l) none) q) up (or_right (p z) (any p l) none))
    where
      go : (t : Bool) → r x z ≡ t → (r x z ≡ false → rising_from r z (insert r x l) ≡ true) → rising r (cond t (x ∷ z ∷ l) (z ∷ insert r x l)) ≡ true
      go true e f = rw (e, up)
      go false e f = f e

-- what rises from an element rises, by its tail and from any that goes before
pub rising_tail : {A : Type 0} (r : A → A → Bool) (y : A) (l : List A) → rising_from r y l ≡ true → rising r l ≡ true
rising_tail r y [] up = refl
rising_tail r y (z ∷ l) up = and_right (r y z) (rising_from r z l) up

module _ {A : Type 0} (r : A → A → Bool) (trans : (x y z : A) → r x y ≡ true → r y z ≡ true → r x z ≡ true) where
  pub from_less : (x y : A) (l : List A) → r x y ≡ true → rising_from r y l ≡ true → rising_from r x l ≡ true
  from_less x y [] a up = refl
  from_less x y (z ∷ l) a up = rw (trans x y z a (and_left_lem (r y z) (rising_from r z l) up), and_right (r y z) (rising_from r z l) up)

  module _ (p : A → Bool) where
    keep_from : (x : A) (l : List A) → rising_from r x l ≡ true → rising_from r x (keep p l) ≡ true
    keep_from x [] up = refl
    keep_from x (y ∷ l) up = go (p y) (keep_from y l yl) (keep_from x l (from_less x y l xy yl))
      where
        xy : r x y ≡ true
        xy = and_left_lem (r x y) (rising_from r y l) up

        yl : rising_from r y l ≡ true
        yl = and_right (r x y) (rising_from r y l) up

        go : (t : Bool) → rising_from r y (keep p l) ≡ true → rising_from r x (keep p l) ≡ true → rising_from r x (cond t (y ∷ keep p l) (keep p l)) ≡ true
        go true a b = rw (xy, a)
        go false a b = b

    pub keep_rising : (l : List A) → rising r l ≡ true → rising r (keep p l) ≡ true
    keep_rising [] up = refl
    keep_rising (y ∷ l) up = go (p y) (keep_from y l up) (keep_rising l (rising_tail r y l up))
      where
        go : (t : Bool) → rising_from r y (keep p l) ≡ true → rising r (keep p l) ≡ true → rising r (cond t (y ∷ keep p l) (keep p l)) ≡ true
        go true a b = a
        go false a b = b

-- what follows an element of a rising list rises from it
pub rising_after : {A : Type 0} (r : A → A → Bool) (a : List A) (y : A) (b : List A) → rising r (a ++ (y ∷ b)) ≡ true → rising_from r y b ≡ true
rising_after r [] y b up = up
rising_after {A} r (x ∷ a) y b up = from x a up
  where
    from : (x : A) (a : List A) → rising_from r x (a ++ (y ∷ b)) ≡ true → rising_from r y b ≡ true
    from x [] up = and_right (r x y) (rising_from r y b) up
    from x (z ∷ a) up = from z a (and_right (r x z) (rising_from r z (a ++ (y ∷ b))) up)
