-- Notions that private contracts, the order of a history's places, and the proofs of both, cite. Assumes nothing.
use Rattle.std.specs.Prelude.{Bool, not, List, ℕ}
use Rattle.host.specs.State.{before, is_no_held}
use Rattle.host.specs.Tick.{due}
use Rattle.board.specs.Board.{is_blank}
use Rattle.service.specs.declared.HeldMemory.{HeldMemory}
use Rattle.service.specs.declared.PlaceMemory.{PlaceMemory}
use Rattle.service.specs.Memory.{held_from, place_from}
use Rattle.clock.specs.declared.Reading.{Reading}
use Rattle.service.specs.declared.HostMemory.{HostMemory}

-- the memory with these parts in place of its own; the plan, the rule set, d, Δ and the own number stay
abbrev pub memory_with : HostMemory → Reading → ℕ → List Reading → ℕ → List HeldMemory → HostMemory
memory_with f last started starts held history =
    record {
      bound = f.bound;
      last = last;
      own = f.own;
      started = started;
      held = held;
      starts = starts;
      history = history;
      plan = f.plan;
      rules = f.rules;
      d = f.d;
    }

-- the memory with another last reading
abbrev pub memory_at : HostMemory → Reading → HostMemory
memory_at f u = memory_with f u f.started f.starts f.held f.history

-- ---- the host's tests of the order that stands in a place

abbrev pub before_in : HeldMemory → HeldMemory → Bool
before_in x e = before (held_from x) (held_from e)

abbrev pub unused_in : HeldMemory → Bool
unused_in e = is_no_held (held_from e)

abbrev pub due_in : ℕ → ℕ → HeldMemory → Bool
due_in Δ u e = due Δ u (held_from e)

abbrev pub waits_in : ℕ → ℕ → HeldMemory → Bool
waits_in Δ u e = not (due_in Δ u e)

-- an unused place
abbrev pub none : HeldMemory
none = record { stamp = record { 0 = 0 }; image = 0; source = 0; kind = 0; share = 0 }

-- ---- the board's tests of what stands in a place

abbrev pub blank_in : PlaceMemory → Bool
blank_in p = is_blank (place_from p)
