-- Start at U: "start 9, 23, 10, 11, 12, 13, 14" (01, "A host's calls" and "Refusal numbers"). Assumes nothing.
use Rattle.std.specs.Prelude.{Bool, not, cond, ◌&&◌, List, [], ◌∷◌, ◌++◌, ℕ, ◌+◌, ◌-◌, leb, ltb, eqb, length, get_or, drop}
use Rattle.lists.specs.Tests.{first_of}
use Rattle.lists.specs.Lists.{insert, pad}
use Rattle.clock.specs.Clock.{largest_stamp}
use Rattle.clock.specs.declared.Reading.{Reading}
use Rattle.orders.specs.Orders.{share_fits}
use Rattle.orders.specs.declared.Order.{Order}
use Rattle.network.specs.Network.{window}
use Rattle.host.specs.declared.Held.{Held}
use Rattle.host.specs.declared.Host.{Host}
use Rattle.host.specs.State.{no_reading, starts_of, held_of, last_start, before, sound, at}
use Rattle.host.specs.Answers.{Said, said_by, unless}
use Rattle.host.specs.OwnLinks.{set_of, placed, ends, own_links}

-- the tests after soundness, which do not look at the history
abbrev pub start_checks : Host → ℕ → Order → List (ℕ × Bool)
start_checks h u o =
    (23, not (share_fits o))
    ∷ (10, not (leb u largest_stamp))
    ∷ (11, ltb u h.last.0)
    ∷ (12, ltb 0 h.started && eqb u (last_start h))
    ∷ (13, leb 4 h.started && not (leb ((get_or h.starts 0 no_reading).0 + window h.rules h.plan h.d) u))
    ∷ (14, leb 32 h.held)
    ∷ []

unfoldable pub start_tests : Host → ℕ → Order → List (ℕ × Bool)
start_tests h u o = (9, not (sound h)) ∷ start_checks h u o

abbrev pub start_refusal : Host → ℕ → Order → ℕ
start_refusal h u o = first_of (start_tests h u o)

-- "The hop sent is 1 under the second rules, 0 under the first"
abbrev pub start_says : Host → ℕ → Order → Said
start_says h u o = said_by (start_refusal h u o) (own_links h.plan h.own) (cond (eqb h.rules 2) 1 0)

-- what a start answers, of a sound state
abbrev pub start_answer : Host → ℕ → Order → Said
start_answer h u o = said_by (first_of (start_checks h u o)) (set_of (placed h.plan) (ends h.plan h.own)) (cond (eqb h.rules 2) 1 0)

-- "its last four starts", with one more
abbrev pub with_start : List Reading → Reading → List Reading
with_start l u = drop (length l - 3) l ++ (u ∷ [])

-- "T = U. The order is held under (T, own number)"
abbrev pub start_of : Host → Reading → Order → Held
start_of h u o = record { stamp = u; source = h.own; order = o }

abbrev pub after_start : Host → Reading → Order → Host
after_start h u o = at h u (length (with_start (starts_of h) u)) (pad 4 no_reading (with_start (starts_of h) u)) (insert before (start_of h u o) (held_of h))

abbrev pub start_host : Host → Reading → Order → Host
start_host h u o = unless (start_refusal h u.0 o) (after_start h u o) h
