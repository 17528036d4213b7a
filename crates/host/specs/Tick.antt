-- Tick at U: "tick 9, 10, 11, 22" (01, "A host's calls" and "Refusal numbers"). Assumes nothing.
use Rattle.std.specs.Prelude.{Bool, not, List, [], ◌∷◌, ◌++◌, ℕ, ◌+◌, ◌*◌, leb, ltb, length, drop}
use Rattle.lists.specs.Tests.{first_of}
use Rattle.lists.specs.Lists.{keep}
use Rattle.clock.specs.Clock.{largest_reading}
use Rattle.clock.specs.declared.Reading.{Reading}
use Rattle.host.specs.declared.Held.{Held}
use Rattle.host.specs.declared.Host.{Host}
use Rattle.host.specs.State.{held_of, sound, at}
use Rattle.host.specs.Entries.{entries_of}
use Rattle.host.specs.Answers.{SaidTick, said_by_tick, unless}

-- T + Δ ≤ U
abbrev pub due : ℕ → ℕ → Held → Bool
due Δ u e = leb (e.stamp.0 + Δ) u

-- "Every held order with T + Δ ≤ U", and what "leaves the history" and what stays
abbrev pub due_in : ℕ → ℕ → List Held → List Held
due_in Δ u l = keep (due Δ u) l

abbrev pub waiting_in : ℕ → ℕ → List Held → List Held
waiting_in Δ u l = keep (λ e. not (due Δ u e)) l

abbrev pub due_of : Host → ℕ → List Held
due_of h u = due_in h.bound u (held_of h)

abbrev pub waiting_of : Host → ℕ → List Held
waiting_of h u = waiting_in h.bound u (held_of h)

-- "written to the lent list .. Bytes after the last entry stay as they were"
abbrev pub written : List Held → List ℕ → List ℕ
written l out = entries_of l ++ drop (16 * length l) out

-- the tests after soundness, by how many are due
abbrev pub tick_checks : Host → ℕ → ℕ → ℕ → List (ℕ × Bool)
tick_checks h u room count =
    (10, not (leb u largest_reading))
    ∷ (11, ltb u h.last.0)
    ∷ (22, ltb room (16 * count))
    ∷ []

unfoldable pub tick_tests : Host → ℕ → ℕ → List (ℕ × Bool)
tick_tests h u room = (9, not (sound h)) ∷ tick_checks h u room (length (due_of h u))

abbrev pub tick_refusal : Host → ℕ → ℕ → ℕ
tick_refusal h u room = first_of (tick_tests h u room)

-- "the answer is their number"
abbrev pub tick_says : Host → ℕ → ℕ → SaidTick
tick_says h u room = said_by_tick (tick_refusal h u room) (length (due_of h u))

-- what a tick answers, of a sound state
abbrev pub tick_answer : Host → ℕ → ℕ → ℕ → SaidTick
tick_answer h u room count = said_by_tick (first_of (tick_checks h u room count)) count

abbrev pub after_tick : Host → Reading → Host
after_tick h u = at h u h.started h.starts (waiting_of h u.0)

abbrev pub tick_host : Host → Reading → ℕ → Host
tick_host h u room = unless (tick_refusal h u.0 room) (after_tick h u) h

abbrev pub tick_list : Host → ℕ → List ℕ → List ℕ
tick_list h u out = unless (tick_refusal h u (length out)) (written (due_of h u) out) out
