-- The loop that looks through the first n places of an array for a name: whether an element that has it is alike, whether one is not, whether
-- there is one. What was found so far, with what is left to look at, is the whole. Assumes nothing.
use mathlib.Core.Path.{◌≡◌, sym, ◌∙◌}
use mathlib.Core.Bool.{Bool, not, ◌&&◌, ◌||◌}
use mathlib.Core.List.{List, map}
use Prim.Native.Nat.{ℕ, ◌≤◌}
use native.Mathlib.Omega.{arith}
use lib.ListN.{length, take, drop}
use lib.Seq.{take-length}
use Rattle.lists.specs.Lists.{any}
use Rattle.lists.proofs.Loops.{first_none, any_end}
use Rattle.lists.proofs.Maps.{any_of}

pub record Looked {A : Type 0} (has alike : A → Bool) (l : List A) (n : ℕ) (same other named : Bool) (i : ℕ) : Type 0 where
  pub inside : i ≤ n
  pub sames : (same || any (λ (e : A). has e && alike e) (drop i (take n l))) ≡ any (λ (e : A). has e && alike e) (take n l)
  pub others : (other || any (λ (e : A). has e && not (alike e)) (drop i (take n l))) ≡ any (λ (e : A). has e && not (alike e)) (take n l)
  pub names : (named || any has (drop i (take n l))) ≡ any has (take n l)

module _ {A : Type 0} {has alike : A → Bool} {l : List A} {n : ℕ} where
  pub look_end : {same other named : Bool} {i : ℕ} → Looked has alike l n same other named i → n ≤ length l → n ≤ i
      → (same ≡ any (λ (e : A). has e && alike e) (take n l)) × ((other ≡ any (λ (e : A). has e && not (alike e)) (take n l)) × (named ≡ any has (take n l)))
  look_end {same} {other} {named} {i} s long h =
      let none = first_none l n long i h in
      (any_end _ same none s.sames, (any_end _ other none s.others, any_end _ named none s.names))

-- over all of a list, of what each element stands for
module _ {A B : Type 0} (f : A → B) (has alike : B → Bool) {l : List A} {same other named : Bool} {i : ℕ} where
  pub look_all : Looked (λ (e : A). has (f e)) (λ (e : A). alike (f e)) l (length l) same other named i → length l ≤ i
      → (same ≡ any (λ (e : B). has e && alike e) (map f l)) × ((other ≡ any (λ (e : B). has e && not (alike e)) (map f l)) × (named ≡ any has (map f l)))
  look_all s h =
      let found = rw (take-length l) at (look_end s (omega arith) h) in (
        found.0 ∙ sym (any_of f (λ (e : B). has e && alike e) l),
        (found.1.0 ∙ sym (any_of f (λ (e : B). has e && not (alike e)) l), found.1.1 ∙ sym (any_of f has l)),
      )
