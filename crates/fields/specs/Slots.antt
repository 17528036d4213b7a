-- A run of fields that hold a number each, as data: written one after the other, and read from the front. Assumes nothing.
use Rattle.std.specs.Prelude.{Bool, not, ◌&&◌, List, [], ◌∷◌, ℕ, ◌+◌, leb, eqb}
use Rattle.lists.specs.Bytes.{be}
use Rattle.fields.specs.Fields.{field, number_at, stated_at, checks}
use Rattle.fields.specs.declared.Slot.{Slot}

-- what can be wrong with a slot's field at a place: another length, a number out of its range
abbrev pub wrong_length : List ℕ → ℕ → Slot → Bool
wrong_length bs at s = not (eqb (stated_at bs at) s.width)

abbrev pub wrong_number : List ℕ → ℕ → Slot → Bool
wrong_number bs at s = not (leb s.least (number_at bs (at + 3) s.width) && leb (number_at bs (at + 3) s.width) s.largest)

abbrev pub slot_checks : List ℕ → ℕ → Slot → List (ℕ × Bool)
slot_checks bs at s = checks bs at s.tag (wrong_length bs at s) (wrong_number bs at s)

-- how many bytes the fields have
abbrev pub span : List Slot → ℕ
span [] = 0
span (s ∷ ss) = 3 + s.width + span ss

-- each number in its slot's field
abbrev pub filled : List Slot → List ℕ → List (List ℕ)
filled [] xs = []
filled (s ∷ ss) [] = []
filled (s ∷ ss) (x ∷ xs) = field s.tag (be s.width x) ∷ filled ss xs

-- the fields from a place on: where each begins, and what can be wrong with it
abbrev pub slot_fields : List ℕ → ℕ → List Slot → List (ℕ × List (ℕ × Bool))
slot_fields bs at [] = []
slot_fields bs at (s ∷ ss) = (at, slot_checks bs at s) ∷ slot_fields bs (at + (3 + s.width)) ss

-- the numbers that stand in them
abbrev pub numbers_at : List ℕ → ℕ → List Slot → List ℕ
numbers_at bs at [] = []
numbers_at bs at (s ∷ ss) = number_at bs (at + 3) s.width ∷ numbers_at bs (at + (3 + s.width)) ss
