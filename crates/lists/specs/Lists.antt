-- Lists: tests of their elements, order, and the places of an array. Assumes nothing.
use Rattle.std.specs.Prelude.{Option, Some, None, Bool, true, false, cond, ◌&&◌, ◌||◌, List, [], ◌∷◌, ◌++◌, ℕ, zero, suc, ◌+◌, ◌-◌, length, take, drop, replicate, ltb}

module _ {A : Type 0} where
  -- the test passes for every element
  abbrev pub all : (A → Bool) → List A → Bool
  all p [] = true
  all p (x ∷ l) = p x && all p l

  -- the test passes for some element
  abbrev pub any : (A → Bool) → List A → Bool
  any p [] = false
  any p (x ∷ l) = p x || any p l

  -- each element stands in the relation to the next
  abbrev pub rising_from : (A → A → Bool) → A → List A → Bool
  rising_from r x [] = true
  rising_from r x (y ∷ l) = r x y && rising_from r y l

  abbrev pub rising : (A → A → Bool) → List A → Bool
  rising r [] = true
  rising r (x ∷ l) = rising_from r x l

  -- it may come next: there is none before it, or that one stands in the relation to it
  abbrev pub follows : (A → A → Bool) → Option A → A → Bool
  follows r None x = true
  follows r (Some w) x = r w x

  -- the list with x put in before the first element that the relation puts it before
  abbrev pub insert : (A → A → Bool) → A → List A → List A
  insert r x [] = x ∷ []
  insert r x (y ∷ l) = cond (r x y) (x ∷ y ∷ l) (y ∷ insert r x l)

  -- the same, sought from behind: x before the last elements that the relation puts it before
  abbrev pub insert_late : (A → A → Bool) → A → List A → List A
  insert_late r x [] = x ∷ []
  insert_late r x (y ∷ l) = cond (all (r x) (y ∷ l)) (x ∷ y ∷ l) (y ∷ insert_late r x l)

  -- an array of which the first n places are in use, with x put in among those; as it was where no place is left
  unfoldable pub put_in : (A → A → Bool) → A → ℕ → List A → List A
  put_in r x n l = cond (ltb n (length l)) (insert_late r x (take n l) ++ drop (n + 1) l) l

  -- the elements that pass the test, in their order
  abbrev pub keep : (A → Bool) → List A → List A
  keep p [] = []
  keep p (x ∷ l) = cond (p x) (x ∷ keep p l) (keep p l)

  -- the elements in front that pass the test, up to the first that fails it
  abbrev pub lead : (A → Bool) → List A → List A
  lead p [] = []
  lead p (x ∷ l) = cond (p x) (x ∷ lead p l) []

  -- the list in an array of n places, each unused place the blank z
  abbrev pub pad : ℕ → A → List A → List A
  pad n z l = l ++ replicate (n - length l) z

  -- the lists one after the other
  abbrev pub flat : List (List A) → List A
  flat [] = []
  flat (x ∷ l) = x ++ flat l

  -- f 0, .., f (n - 1)
  unfoldable pub listed : ℕ → (ℕ → A) → List A
  listed zero f = []
  listed (suc n) f = listed n f ++ (f n ∷ [])
