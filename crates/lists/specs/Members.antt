-- Lists as finite sets: membership, a statement on every element, distinct elements. Assumes nothing.
use Rattle.std.specs.Prelude.{◌≡◌, ◌⊎◌, List, [], ◌∷◌}

module _ {A : Type 0} where
  -- x is in the list
  abbrev pub In : A → List A → Type 0
  In x [] = ⊥
  In x (y ∷ l) = (x ≡ y) ⊎ In x l

  -- Q holds of every element
  abbrev pub All : (A → Type 0) → List A → Type 0
  All Q [] = Unit {0}
  All Q (y ∷ l) = Q y × All Q l

  -- no element comes twice
  abbrev pub Distinct : List A → Type 0
  Distinct [] = Unit {0}
  Distinct (x ∷ l) = (In x l → ⊥) × Distinct l
