-- Lists of tests. Assumes nothing.
use Rattle.std.specs.Prelude.{Bool, true, false, cond, ◌&&◌, ◌||◌, List, [], ◌∷◌, ℕ}

-- every test of the list passes
unfoldable pub all_of : List Bool → Bool
all_of [] = true
all_of (t ∷ ts) = t && all_of ts

-- some test of the list passes
unfoldable pub any_of : List Bool → Bool
any_of [] = false
any_of (t ∷ ts) = t || any_of ts

-- the number of the first test that passes, and 0 where none does: an order of checks, with its refusal numbers
abbrev pub first_of : List (ℕ × Bool) → ℕ
first_of [] = 0
first_of (c ∷ cs) = cond c.1 c.0 (first_of cs)
