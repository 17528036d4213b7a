-- The faults of a run of fields. Assumes nothing.
use mathlib.Core.Path.{◌≡◌, refl, sym, ◌∙◌}
use mathlib.Core.Bool.{Bool, true, false, cond}
use mathlib.Core.List.{List, [], ◌∷◌, ◌++◌}
use Prim.Native.Nat.{ℕ}
use native.Mathlib.Omega.{arith}
use borrow.Author.Tests.{eq-eqb, ne_eqb, eqb-true, eqb-false}
use lib.Dec.{eqb}
use Rattle.lists.specs.Tests.{first_of}
use Rattle.fields.specs.Faults.{fault, first}
use Rattle.fields.specs.declared.Fault.{Fault}
use Rattle.fields.specs.declared.Fault.TheVariants.{CutShort, WrongTag, WrongLength, WrongValue, LeftOver}

-- ---- faults by their numbers

pub fault_some : (f : Fault) → fault f ≡ 0 → ⊥
fault_some CutShort e = omega arith
fault_some WrongTag e = omega arith
fault_some WrongLength e = omega arith
fault_some WrongValue e = omega arith
fault_some LeftOver e = omega arith

-- ---- the first fault of fields and more fields

first_next : (at : ℕ) (cs : List (ℕ × Bool)) (fs : List (ℕ × List (ℕ × Bool))) → first_of cs ≡ 0 → first ((at, cs) ∷ fs) ≡ first fs
unfolding first
first_next at cs fs e = rw (eq-eqb (first_of cs) 0 e)

first_more : (fs gs : List (ℕ × List (ℕ × Bool))) → first (fs ++ gs) ≡ cond (eqb (first fs).0 0) (first gs) (first fs)
unfolding first
first_more [] gs = refl
first_more (f ∷ fs) gs = go (eqb (first_of f.1) 0) refl (first_more fs gs)
  where
    go : (b : Bool) → eqb (first_of f.1) 0 ≡ b → first (fs ++ gs) ≡ cond (eqb (first fs).0 0) (first gs) (first fs)
        → first ((f ∷ fs) ++ gs) ≡ cond (eqb (first (f ∷ fs)).0 0) (first gs) (first (f ∷ fs))
    go true q e = rw q e
    go false q e = rw (q, q) refl

module _ (fs gs : List (ℕ × List (ℕ × Bool))) where
  pub found_before : (f : Fault) (at : ℕ) → (fault f, at) ≡ first fs → (fault f, at) ≡ first (fs ++ gs)
  found_before f at e = e ∙ sym (first_more fs gs ∙ simp (← e, ne_eqb (fault f) 0 (fault_some f)))

  pub none_before : (0, 0) ≡ first fs → first gs ≡ first (fs ++ gs)
  none_before e = sym (first_more fs gs ∙ simp (← e))

-- no field is at fault
abbrev pub Clear : List (ℕ × List (ℕ × Bool)) → Type 0
Clear [] = Unit {0}
Clear (f ∷ fs) = (first_of f.1 ≡ 0) × Clear fs

pub first_clear : (fs : List (ℕ × List (ℕ × Bool))) → (first fs).0 ≡ 0 → Clear fs
unfolding first
first_clear [] e = tt
first_clear (f ∷ fs) e = go (eqb (first_of f.1) 0) refl e (first_clear fs)
  where
    go : (t : Bool) → eqb (first_of f.1) 0 ≡ t → (cond t (first fs) (first_of f.1, f.0)).0 ≡ 0 → ((first fs).0 ≡ 0 → Clear fs)
        → (first_of f.1 ≡ 0) × Clear fs
    go true q e rest = (eqb-true (first_of f.1) 0 q, rest e)
    go false q e rest = absurd (eqb-false (first_of f.1) 0 q e)

pub clear_first : (fs : List (ℕ × List (ℕ × Bool))) → Clear fs → first fs ≡ (0, 0)
unfolding first
clear_first [] p = refl
clear_first (f ∷ fs) p = first_next f.0 f.1 fs p.0 ∙ clear_first fs p.1

pub clear_left : (fs gs : List (ℕ × List (ℕ × Bool))) → Clear (fs ++ gs) → Clear fs
clear_left [] gs p = tt
clear_left (f ∷ fs) gs p = (p.0, clear_left fs gs p.1)

pub clear_right : (fs gs : List (ℕ × List (ℕ × Bool))) → Clear (fs ++ gs) → Clear gs
clear_right [] gs p = p
clear_right (f ∷ fs) gs p = clear_right fs gs p.1

pub clear_both : (fs gs : List (ℕ × List (ℕ × Bool))) → Clear fs → Clear gs → Clear (fs ++ gs)
clear_both [] gs p q = q
clear_both (f ∷ fs) gs p q = (p.0, clear_both fs gs p.1 q)
