-- The rules of a schedule: refusal 32 (01, "Schedules and the replay program"). Each speaks of a plan p, a fault set f and an end tick e, and of a
-- record by the places where it and the one before it begin. Assumes nothing.
use Rattle.std.specs.Prelude.{Bool, false, not, cond, ◌&&◌, List, [], ◌∷◌, ℕ, ◌+◌, ◌-◌, ◌^◌, leb, ltb, eqb, get_or}
use Rattle.std.specs.Int.Count.{ones}
use Rattle.lists.specs.Tests.{all_of, any_of}
use Rattle.lists.specs.Searches.{some, least}
use Rattle.clock.specs.declared.Tick.{Tick}
use Rattle.network.specs.Network.{n, m, π, L, δ, ε, survives}
use Rattle.network.specs.declared.Plan.{Plan}
use Rattle.network.specs.declared.Faults.{Faults}
use Rattle.schedule.specs.Shape.{place, records}
use Rattle.schedule.specs.Schedule.{plan_of, faults_of, end_of, tick_at, copy_at}

-- "faulty sets within π, L and the network"
unfoldable pub faults_within : Plan → Faults → Bool
faults_within p f =
    all_of (ltb f.hosts (2 ^ n p) ∷ ltb f.links (2 ^ m p) ∷ leb (ones f.hosts) (π p) ∷ leb (ones f.links) (L p) ∷ [])

-- "offsets below ε": some offset is not
abbrev pub offsets_out : Plan → List ℕ → ℕ → Bool
offsets_out p bs at = some (n p) (λ i. leb (ε p) (get_or bs (at + i) 0))

-- "starts in non-falling ticks up to the end"
abbrev pub start_out : Tick → List ℕ → ℕ → ℕ → Bool
start_out e bs before at =
    any_of (
    ltb e.0 (tick_at bs (at + 3)).0 ∷ (eqb (get_or bs before 0) 21 && ltb (tick_at bs (at + 3)).0 (tick_at bs (before + 3)).0) ∷ [])

-- "fates strictly rising by start, link, direction; a lost copy only where sender, receiver or link is faulty; a delay at most δ"
abbrev pub fate_out : Plan → Faults → List ℕ → ℕ → ℕ → Bool
fate_out p f bs before at =
    any_of (
    ltb (δ p) (get_or bs (at + 6) 0)
    ∷ (eqb (get_or bs (at + 6) 0) 0 && survives p f (get_or bs (at + 4) 0))
    ∷ (eqb (get_or bs before 0) 22 && leb (copy_at bs (at + 3)) (copy_at bs (before + 3))) ∷ [])

-- by the record's tag; "end tick up to 4,096"
unfoldable pub out_at : Plan → Faults → Tick → List ℕ → ℕ → ℕ → Bool
out_at p f e bs before at =
    cond (eqb (get_or bs at 0) 18) (not (faults_within p f))
    (cond (eqb (get_or bs at 0) 19) (offsets_out p bs (at + 3))
    (cond (eqb (get_or bs at 0) 20) (ltb 4096 e.0)
    (cond (eqb (get_or bs at 0) 21) (start_out e bs before at) (cond (eqb (get_or bs at 0) 22) (fate_out p f bs before at) false))))

-- record k is outside the rules
abbrev pub outside : Plan → Faults → Tick → List ℕ → ℕ → Bool
outside p f e bs k = out_at p f e bs (place bs (k - 1)) (place bs k)

-- "32 for the first record outside the rules, all records counted from 0"; the number of records where there is none
abbrev pub first_outside : List ℕ → ℕ
first_outside bs = least (records bs) (outside (plan_of bs) (faults_of bs) (end_of bs) bs)
