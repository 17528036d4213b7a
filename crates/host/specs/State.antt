-- A host's state, and which states are sound (01, "A host's calls" and "Sound means"). Assumes nothing.
use Rattle.std.specs.Prelude.{◌≡◌, Bool, not, ◌&&◌, ◌||◌, List, [], ◌∷◌, ℕ, ◌-◌, leb, ltb, eqb, length, get_or, take, drop}
use Rattle.lists.specs.Tests.{all_of}
use Rattle.lists.specs.Lists.{all, rising, pad}
use Rattle.clock.specs.Clock.{largest_stamp}
use Rattle.clock.specs.declared.Reading.{Reading}
use Rattle.orders.specs.Orders.{share_fits, same_order}
use Rattle.orders.specs.Rules.{is_rules}
use Rattle.orders.specs.declared.Order.TheVariants.{Publish}
use Rattle.network.specs.Network.{n, m, in_range, bad_links, bound}
use Rattle.network.specs.declared.Link.{Link}
use Rattle.network.specs.declared.Plan.{Plan}
use Rattle.host.specs.declared.Frame.{Frame}
use Rattle.host.specs.declared.Held.{Held}
use Rattle.host.specs.declared.Host.{Host}

-- what an unused place holds: "unused places zero"
abbrev pub no_reading : Reading
no_reading = record { 0 = 0 }

abbrev pub no_held : Held
no_held = record { stamp = no_reading; source = 0; order = Publish 0 0 }

abbrev pub is_no_reading : Reading → Bool
is_no_reading s = eqb s.0 0

abbrev pub is_no_link : Link → Bool
is_no_link l = eqb l.a 0 && eqb l.b 0

abbrev pub is_no_held : Held → Bool
is_no_held e = eqb e.stamp.0 0 && eqb e.source 0 && same_order e.order (Publish 0 0)

-- "its last four starts", oldest first, "and its history"
abbrev pub starts_of : Host → List Reading
starts_of h = take h.started h.starts

abbrev pub held_of : Host → List Held
held_of h = take h.held h.history

abbrev pub links_of : Plan → List Link
links_of p = take (m p) p.links

-- the last start, where there is one
abbrev pub last_start : Host → ℕ
last_start h = (get_or h.starts (h.started - 1) no_reading).0

-- an order's name is (stamp, source): two orders of one name, and names in their order
abbrev pub same_name : Held → Held → Bool
same_name x e = eqb x.stamp.0 e.stamp.0 && eqb x.source e.source

abbrev pub before : Held → Held → Bool
before x e = ltb x.stamp.0 e.stamp.0 || eqb x.stamp.0 e.stamp.0 && ltb x.source e.source

abbrev pub earlier : Reading → Reading → Bool
earlier s t = ltb s.0 t.0

-- a held order "in range": its stamp, its source and a publish's share
abbrev pub fits : ℕ → Held → Bool
fits hosts e = leb e.stamp.0 largest_stamp && ltb e.source hosts && share_fits e.order

-- not one "of the host's own above its last start or without one"
abbrev pub own_started : ℕ → ℕ → ℕ → Held → Bool
own_started own started newest e = not (eqb e.source own) || ltb 0 started && leb e.stamp.0 newest

-- "none above the last reading"
abbrev pub not_above : ℕ → Reading → Bool
not_above u s = leb s.0 u

-- "Sound means: a plan clear of 1 and 2, d 1..7, Δ by its formula, held orders at most 32, in range and strictly rising by (stamp, source), none
-- of the host's own above its last start or without one, starts strictly rising and none above the last reading, rule set 1 or 2, own number below
-- n, unused places zero"
-- of all but the history
unfoldable pub frame_tests : Host → List Bool
frame_tests h =
    (in_range h.plan && not (bad_links h.plan))
    ∷ leb 1 h.d
    ∷ leb h.d 7
    ∷ eqb h.bound (bound h.rules h.plan h.d)
    ∷ leb h.started 4
    ∷ rising earlier (starts_of h)
    ∷ all (not_above h.last.0) (starts_of h)
    ∷ is_rules h.rules
    ∷ ltb h.own (n h.plan)
    ∷ all is_no_link (drop (m h.plan) h.plan.links)
    ∷ all is_no_reading (drop h.started h.starts)
    ∷ []

-- of the history
unfoldable pub history_tests : Host → List Bool
history_tests h =
    leb h.held 32
    ∷ all (fits (n h.plan)) (held_of h)
    ∷ rising before (held_of h)
    ∷ all (own_started h.own h.started (last_start h)) (held_of h)
    ∷ all is_no_held (drop h.held h.history)
    ∷ []

abbrev pub framed : Host → Bool
framed h = all_of (frame_tests h)

abbrev pub sound : Host → Bool
sound h = framed h && all_of (history_tests h)

-- the state of a frame, with no history
abbrev pub bare : Frame → Host
bare f =
    record {
      plan = f.plan;
      rules = f.rules;
      d = f.d;
      bound = f.bound;
      own = f.own;
      last = f.last;
      started = f.started;
      starts = f.starts;
      held = f.held;
      history = [];
    }

-- a state but for its history
abbrev pub frame_of : Host → Frame
frame_of h =
    record {
      plan = h.plan;
      rules = h.rules;
      d = h.d;
      bound = h.bound;
      own = h.own;
      last = h.last;
      started = h.started;
      starts = h.starts;
      held = h.held;
    }

-- the state with these parts in place of its own; the plan, the rule set, d, Δ and the own number stay
abbrev pub with : Host → Reading → List Reading → ℕ → List Held → ℕ → Host
with h last starts started history held =
    record {
      plan = h.plan;
      rules = h.rules;
      d = h.d;
      bound = h.bound;
      own = h.own;
      last = last;
      started = started;
      starts = starts;
      held = held;
      history = history;
    }

-- the state at a reading, with these orders held: "An accepted call sets the last reading to U"
abbrev pub at : Host → Reading → ℕ → List Reading → List Held → Host
at h u started starts held = with h u starts started (pad 32 no_held held) (length held)

-- the arrays have the lengths that their types state
pub record Sized (h : Host) : Type 0 where
  pub starts : length h.starts ≡ 4
  pub history : length h.history ≡ 32
