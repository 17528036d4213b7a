-- A field, where it is put, and what can be wrong with one (01, "The message"; 02 §1). Assumes nothing.
use Rattle.std.specs.Prelude.{Bool, cond, not, List, [], ◌∷◌, ◌++◌, ℕ, ◌+◌, min, leb, ltb, eqb, length, get_or, take, drop}
use Rattle.lists.specs.Bytes.{be, val_at}

-- "a one-byte tag, a two-byte length and the value"
unfoldable pub field : ℕ → List ℕ → List ℕ
field tag value = be 1 tag ++ (be 2 (length value) ++ value)

-- bytes put at a place of a list; the list as it was where there is no room for all of them
unfoldable pub placed : List ℕ → ℕ → List ℕ → List ℕ
placed l at bs = cond (leb (at + length bs) (length l)) (take at l ++ bs ++ drop (at + length bs) l) l

-- a number of so many bytes, 8 at most
abbrev pub number_at : List ℕ → ℕ → ℕ → ℕ
number_at bs at width = val_at bs at (min 8 width)

-- the length that the field at a place states
abbrev pub stated_at : List ℕ → ℕ → ℕ
stated_at bs at = val_at bs (at + 1) 2

-- "cut short (head or stated length past the end)"
abbrev pub cut : List ℕ → ℕ → Bool
cut bs at = ltb (length bs) (at + 3 + stated_at bs at)

-- 33 cut short, 34 wrong tag
abbrev pub head_checks : List ℕ → ℕ → ℕ → List (ℕ × Bool)
head_checks bs at tag = (33, cut bs at) ∷ (34, not (eqb (get_or bs at 0) tag)) ∷ []

-- 35 wrong length, 36 value out of range
abbrev pub value_checks : Bool → Bool → List (ℕ × Bool)
value_checks wrong_length wrong_value = (35, wrong_length) ∷ (36, wrong_value) ∷ []

-- "Within one field the checks run in the order of the numbers"
abbrev pub checks : List ℕ → ℕ → ℕ → Bool → Bool → List (ℕ × Bool)
checks bs at tag wrong_length wrong_value = head_checks bs at tag ++ value_checks wrong_length wrong_value
