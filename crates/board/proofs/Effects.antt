-- The table has the rule at each of its twelve entries, by one test over all of them. Assumes nothing.
use mathlib.Core.Path.{◌≡◌, refl}
use mathlib.Core.Bool.{Bool, true}
use mathlib.Core.List.{List, [], ◌∷◌}
use Prim.Native.Nat.{ℕ, ◌+◌, ◌/◌, ◌%◌}
use lib.Dec.{eqb}
use lib.ListN.{get_or}
use Rattle.lists.specs.Searches.{each}
use Rattle.board.specs.declared.table.Effect.{Effect}
use Rattle.board.specs.declared.table.Effect.TheVariants.{Keeps, Offers, Halts, Resumes, Removes}
use Rattle.board.specs.Inside.{effect_of}

unfoldable pub effects : List Effect
effects = Offers ∷ Offers ∷ Keeps ∷ Halts ∷ Halts ∷ Keeps ∷ Keeps ∷ Keeps ∷ Resumes ∷ Keeps ∷ Removes ∷ Removes ∷ []

-- effects are told apart by these numbers
abbrev pub code : Effect → ℕ
code Keeps = 0
code Offers = 1
code Halts = 2
code Resumes = 3
code Removes = 4

unfoldable pub right : ℕ → Bool
right k = eqb (code (get_or effects k Keeps)) (code (effect_of (k / 3 + 1) (k % 3)))

pub table : each 12 right ≡ true
unfolding each right effects
table = refl
