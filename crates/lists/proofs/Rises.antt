-- Rising lists: each element stands before all that follow, so none comes twice; what is left of the front rises, and one more behind rises;
-- where a test that an element passes with each later one fails at the first, it fails at all. Assumes nothing.
use mathlib.Core.Path.{◌≡◌, refl, sym, ap, ◌∙◌, subst}
use mathlib.Core.Logic.{◌⊎◌, inl, inr}
use mathlib.Core.Bool.{Bool, true, false, not, true≢false}
use mathlib.Core.List.{List, [], ◌∷◌, ◌++◌}
use Prim.Native.Nat.{ℕ, zero, suc, ◌-◌}
use native.Mathlib.Numerals.{sub-one}
use lib.ListN.{length, get_or, drop}
use Rattle.lists.specs.Lists.{all, rising_from, rising, keep}
use Rattle.lists.specs.Members.{In}
use Rattle.lists.proofs.Bools.{false_unless, and_left_lem, and_right}
use Rattle.lists.proofs.Listed.{all_member}
use Rattle.lists.proofs.Order.{rising_tail, from_less}

pub rising_drop : {A : Type 0} (r : A → A → Bool) (k : ℕ) (l : List A) → rising r l ≡ true → rising r (drop k l) ≡ true
rising_drop r zero l up = up
rising_drop r (suc k) [] up = refl
rising_drop r (suc k) (x ∷ l) up = rising_drop r k l (rising_tail r x l up)

pub rising_snoc : {A : Type 0} (r : A → A → Bool) (u : A) (l : List A) → rising r l ≡ true → all (λ (x : A). r x u) l ≡ true → rising r (l ++ (u ∷ [])) ≡ true
rising_snoc r u [] up below = refl
rising_snoc {A} r u (x ∷ l) up below = from x l up below
  where
    from : (x : A) (l : List A) → rising_from r x l ≡ true → all (λ (y : A). r y u) (x ∷ l) ≡ true → rising_from r x (l ++ (u ∷ [])) ≡ true
    from x [] up below = rw (and_left_lem (r x u) true below)
    from x (y ∷ l) up below =
        rw (and_left_lem (r x y) (rising_from r y l) up, from y l (and_right (r x y) (rising_from r y l) up) (and_right (r x u) (all (λ (z : A). r z u) (y ∷ l)) below))

module _ {A : Type 0} (r : A → A → Bool) (trans : (x y z : A) → r x y ≡ true → r y z ≡ true → r x z ≡ true) where
  -- the first stands before all that follow
  pub first_before : (x : A) (l : List A) → rising_from r x l ≡ true → all (r x) l ≡ true
  first_before x [] up = refl
  first_before x (y ∷ l) up =
      let xy : r x y ≡ true = and_left_lem (r x y) (rising_from r y l) up in
      rw (xy, first_before x l (from_less r trans x y l xy (and_right (r x y) (rising_from r y l) up)))

  -- an element is the last or stands before it
  pub before_last : (d : A) (l : List A) → rising r l ≡ true → (x : A) → In x l → (x ≡ get_or l (length l - 1) d) ⊎ (r x (get_or l (length l - 1) d) ≡ true)
  before_last d [] up x h = absurd h
  before_last d (y ∷ []) up x (inl e) = inl e
  before_last d (y ∷ []) up x (inr h) = absurd h
  before_last d (y ∷ z ∷ l) up x h =
      let same = ap (λ (k : ℕ). get_or (y ∷ z ∷ l) k d) (sub-one (suc (suc (length l)))) ∙ sym (ap (λ (k : ℕ). get_or (z ∷ l) k d) (sub-one (suc (length l)))) in
      subst (λ (w : A). (x ≡ w) ⊎ (r x w ≡ true)) (sym same) (go h (before_last d (z ∷ l) (rising_tail r y (z ∷ l) up)))
    where
      last : A
      last = get_or (z ∷ l) (length (z ∷ l) - 1) d

      go : In x (y ∷ z ∷ l) → ((w : A) → In w (z ∷ l) → (w ≡ last) ⊎ (r w last ≡ true)) → (x ≡ last) ⊎ (r x last ≡ true)
      go (inl e) ih = inr (ap (λ (w : A). r w last) e ∙ up_to (ih z (inl refl)))
        where
          yz : r y z ≡ true
          yz = and_left_lem (r y z) (rising_from r z l) up

          up_to : (z ≡ last) ⊎ (r z last ≡ true) → r y last ≡ true
          up_to (inl q) = ap (r y) (sym q) ∙ yz
          up_to (inr q) = trans y z last yz q
      go (inr i) ih = ih x i

  -- of two elements neither of which stands before the other, one is the other
  pub once : (l : List A) → rising r l ≡ true → (x y : A) → In x l → In y l → r x y ≡ false → r y x ≡ false → x ≡ y
  once [] up x y h i a b = absurd h
  once (z ∷ l) up x y (inl e) (inl q) a b = e ∙ sym q
  once (z ∷ l) up x y (inl e) (inr i) a b = absurd (true≢false (sym (ap (λ (w : A). r w y) e ∙ all_member (r z) l (first_before z l up) y i) ∙ a))
  once (z ∷ l) up x y (inr h) (inl q) a b = absurd (true≢false (sym (ap (λ (w : A). r w x) q ∙ all_member (r z) l (first_before z l up) x h) ∙ b))
  once (z ∷ l) up x y (inr h) (inr i) a b = once l (rising_tail r z l up) x y h i a b

-- a test that an element passes with each later one: where the first fails it, none is kept by it, and all are by its contrary
pub none_pass : {A : Type 0} (r : A → A → Bool) (p : A → Bool) → ((x y : A) → r x y ≡ true → p y ≡ true → p x ≡ true) → (x : A) (l : List A) → rising_from r x l ≡ true → p x ≡ false
    → (keep p (x ∷ l) ≡ []) × (keep (λ (y : A). not (p y)) (x ∷ l) ≡ x ∷ l)
none_pass r p with-later x [] up e = (rw e, rw e)
none_pass {A} r p with-later x (y ∷ l) up e =
    let later : p y ≡ false = false_unless (p y) (λ q. true≢false (sym (with-later x y (and_left_lem (r x y) (rising_from r y l) up) q) ∙ e)) in
    let rest = none_pass r p with-later y l (and_right (r x y) (rising_from r y l) up) later in
    (rw e rest.0, rw e (ap (λ (t : List A). x ∷ t) rest.1))
