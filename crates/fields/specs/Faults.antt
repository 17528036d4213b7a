-- The faults of a field by their numbers (02 §1), and the first fault of a run of fields. Assumes nothing.
use Rattle.std.specs.Prelude.{Bool, cond, Result, Ok, Err, List, [], ◌∷◌, ℕ, eqb}
use Rattle.lists.specs.Tests.{first_of}
use Rattle.fields.specs.declared.Fault.{Fault}
use Rattle.fields.specs.declared.Fault.TheVariants.{CutShort, WrongTag, WrongLength, WrongValue, LeftOver}

-- "33 cut short, 34 wrong tag, 35 wrong length, 36 value out of range, 37 bytes left over"
abbrev pub fault : Fault → ℕ
fault CutShort = 33
fault WrongTag = 34
fault WrongLength = 35
fault WrongValue = 36
fault LeftOver = 37

-- 0 where nothing is wrong
abbrev pub verdict : Result (Unit {0}) Fault → ℕ
verdict (Ok _) = 0
verdict (Err f) = fault f

-- "which fault it met first, reading from the front, and the byte where the field at fault begins": of fields that are each a place and an
-- order of checks, and (0, 0) where none is at fault
unfoldable pub first : List (ℕ × List (ℕ × Bool)) → ℕ × ℕ
first [] = (0, 0)
first (f ∷ fs) = cond (eqb (first_of f.1) 0) (first fs) (first_of f.1, f.0)
