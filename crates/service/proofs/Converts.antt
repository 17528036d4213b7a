-- An array that is filled place by place with what each element of another stands for. Assumes nothing.
use mathlib.Core.Path.{◌≡◌, sym, ap, ◌∙◌, subst}
use mathlib.Core.List.{List, [], ◌∷◌, ◌++◌, map, append-nil}
use Prim.Native.Nat.{ℕ, ◌+◌, ◌-◌, ◌≤◌, ◌<◌}
use native.Mathlib.Numerals.{add-one}
use native.Mathlib.Omega.{arith}
use lib.ListN.{length, take, get_or, set, replicate, length-map}
use lib.Seq.{length-take-le, take-suc, take_all}
use Rattle.lists.specs.Lists.{pad}
use Rattle.lists.proofs.MemberLaws.{map_append}
use Rattle.lists.proofs.Places.{pad_more}

module _ {A B : Type 0} (f : A → B) (N : ℕ) (z : B) (l : List A) where
  pub fill_next : (d : A) (i : ℕ) → i < length l → length l ≤ N → set (pad N z (map f (take i l))) i (f (get_or l i d)) ≡ pad N z (map f (take (i + 1) l))
  fill_next d i h most =
      let x : B = f (get_or l i d) in
      let k : length (map f (take i l)) ≡ i = length-map (take i l) f ∙ length-take-le i l (omega arith) in
      let more : map f (take (i + 1) l) ≡ map f (take i l) ++ (x ∷ []) = rw add-one (ap (map f) (take-suc l i d h) ∙ map_append f (take i l) (get_or l i d ∷ [])) in
      subst (λ (j : ℕ). set (pad N z (map f (take i l))) j x ≡ pad N z (map f (take i l) ++ (x ∷ []))) k (pad_more N z x (map f (take i l)) (omega arith))
      ∙ ap (pad N z) (sym more)

  pub fill_all : (i : ℕ) → N ≤ i → length l ≡ N → pad N z (map f (take i l)) ≡ map f l
  fill_all i h e =
      let none : N - length (map f l) ≡ 0 = rw (length-map l f) (omega arith) in
      ap (λ (t : List A). pad N z (map f t)) (take_all i l (omega arith)) ∙ ap (λ (n : ℕ). map f l ++ replicate n z) none ∙ append-nil (map f l)
