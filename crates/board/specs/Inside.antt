-- Notions that private contracts, and the proofs of those, cite. Assumes nothing.
use Rattle.std.specs.Prelude.{◌≡◌, true, cond, List, ◌++◌, ℕ, ◌≤◌, ◌<◌, eqb, ◌+◌, length, take, drop, get_or}
use Rattle.lists.specs.Lists.{all, rising}
use Rattle.board.specs.declared.Stand.{Stand}
use Rattle.board.specs.declared.Stand.TheVariants.{Absent, Offered, Halted}
use Rattle.board.specs.declared.Place.{Place}
use Rattle.board.specs.declared.table.Effect.{Effect}
use Rattle.board.specs.declared.table.Effect.TheVariants.{Keeps, Offers, Halts, Resumes, Removes}
use Rattle.board.specs.Board.{place_fits, before, is_blank, blank, stands, placed, settle}

-- a sound board of these places, of which the first are in use
pub record Sound (places : List Place) (count : ℕ) : Type 0 where
  pub few : count ≤ 16
  pub fit : all place_fits (take count places) ≡ true
  pub up : rising before (take count places) ≡ true
  pub rest : all is_blank (drop count places) ≡ true

-- where an image stands among these
pub record StandsAt (l : List Place) (image at : ℕ) : Type 0 where
  pub within : at < length l
  pub stood : stands image l ≡ (get_or l at blank).stand
  pub settled : (stand : Stand) → settle image stand l ≡ take at l ++ (placed image stand ++ drop (at + 1) l)

-- where it would stand: it is absent
pub record WouldStandAt (l : List Place) (image at : ℕ) : Type 0 where
  pub within : at ≤ length l
  pub stood : stands image l ≡ Absent
  pub settled : (stand : Stand) → settle image stand l ≡ take at l ++ (placed image stand ++ drop at l)

-- ---- the effects of the table: with the order's share, with the old share, and offered with the old share or absent where that is 0

abbrev pub state_of : Stand → ℕ
state_of Absent = 0
state_of (Offered share) = 1
state_of (Halted share) = 2

-- the share of a stand, and 0 where it is absent
abbrev pub old_share : Stand → ℕ
old_share Absent = 0
old_share (Offered share) = share
old_share (Halted share) = share

-- what an order of this kind, 1 to 4, does to an image in this state
abbrev pub effect_of : ℕ → ℕ → Effect
effect_of kind state =
    cond (eqb kind 1) (cond (eqb state 2) Keeps Offers)
    (cond (eqb kind 2) (cond (eqb state 2) Keeps Halts) (cond (eqb kind 3) (cond (eqb state 2) Resumes Keeps) (cond (eqb state 0) Keeps Removes)))

-- what an effect makes of a stand, where the order's share is `share`
abbrev pub effected : Effect → ℕ → Stand → Stand
effected Keeps share old = old
effected Offers share old = Offered share
effected Halts share old = Halted (old_share old)
effected Resumes share old = cond (eqb (old_share old) 0) Absent (Offered (old_share old))
effected Removes share old = Absent
