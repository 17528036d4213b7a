-- Receive at U over a link: "receive 9, 15, 23, 10, 11, 16, 17, 18, 19, 20, 21, 14" (01, "A host's calls" and "Refusal numbers"). Assumes nothing.
use Rattle.std.specs.Prelude.{Bool, not, cond, ◌&&◌, List, [], ◌∷◌, ℕ, ◌+◌, ◌*◌, leb, ltb, eqb}
use Rattle.lists.specs.Tests.{first_of}
use Rattle.lists.specs.Lists.{any, insert}
use Rattle.clock.specs.Clock.{largest_reading, largest_stamp}
use Rattle.clock.specs.declared.Reading.{Reading}
use Rattle.orders.specs.Orders.{share_fits, same_order}
use Rattle.orders.specs.Rules.{hop_fits}
use Rattle.network.specs.Network.{n, m, δ, ε}
use Rattle.network.specs.declared.Plan.{Plan}
use Rattle.host.specs.declared.Held.{Held}
use Rattle.host.specs.declared.Host.{Host}
use Rattle.host.specs.State.{held_of, same_name, before, sound, at}
use Rattle.host.specs.Answers.{Said, said_by, unless}
use Rattle.host.specs.OwnLinks.{set_of, placed, ends, ends_but, other_links}
use Rattle.host.specs.Tick.{due}

-- 15: "own link or source that the plan lacks"
abbrev pub in_plan : Plan → ℕ → ℕ → ℕ → Bool
in_plan p own arrival source = ltb arrival (m p) && (ends p own arrival && ltb source (n p))

-- 23: "a stamp, hop or share out of range"
abbrev pub copy_fits : ℕ → ℕ → Held → Bool
copy_fits rules hop x = leb x.stamp.0 largest_stamp && hop_fits rules hop && share_fits x.order

-- 16: "second rules: U + hε ≤ T"
abbrev pub early : ℕ → Plan → ℕ → ℕ → ℕ → Bool
early rules p u hop t = eqb rules 2 && leb (u + hop * ε p) t

-- 17: "second rules: U ≥ T + h(δ+ε)"
abbrev pub late : ℕ → Plan → ℕ → ℕ → ℕ → Bool
late rules p u hop t = eqb rules 2 && leb (t + hop * (δ p + ε p)) u

-- 19 and 20: "the same order", and "another", "is held under (T, source)"
abbrev pub same_held : Held → Held → Bool
same_held x e = same_name x e && same_order x.order e.order

abbrev pub other_held : Held → Held → Bool
other_held x e = same_name x e && not (same_order x.order e.order)

-- the tests after soundness, by what was seen of the history: whether the same order, another, any is held under the copy's name
abbrev pub receive_checks : Host → ℕ → ℕ → ℕ → Held → Bool → Bool → Bool → List (ℕ × Bool)
receive_checks h u arrival hop x same other named =
    (15, not (in_plan h.plan h.own arrival x.source))
    ∷ (23, not (copy_fits h.rules hop x))
    ∷ (10, not (leb u largest_reading))
    ∷ (11, ltb u h.last.0)
    ∷ (16, early h.rules h.plan u hop x.stamp.0)
    ∷ (17, late h.rules h.plan u hop x.stamp.0)
    ∷ (18, due h.bound u x)
    ∷ (19, same)
    ∷ (20, other)
    ∷ (21, eqb x.source h.own && not named)
    ∷ (14, leb 32 h.held)
    ∷ []

unfoldable pub receive_tests : Host → ℕ → ℕ → ℕ → Held → List (ℕ × Bool)
receive_tests h u arrival hop x =
    (9, not (sound h))
    ∷ receive_checks h u arrival hop x (any (same_held x) (held_of h)) (any (other_held x) (held_of h)) (any (same_name x) (held_of h))

abbrev pub receive_refusal : Host → ℕ → ℕ → ℕ → Held → ℕ
receive_refusal h u arrival hop x = first_of (receive_tests h u arrival hop x)

-- "A copy with hop 8 is held and relayed on no link, with hop 0"; else "the hop sent is h+1 under the second rules, 0 under the first"
abbrev pub relay_links : Host → ℕ → ℕ → ℕ
relay_links h arrival hop = cond (eqb hop 8) 0 (other_links h.plan h.own arrival)

abbrev pub relay_hop : ℕ → ℕ → ℕ
relay_hop rules hop = cond (eqb hop 8) 0 (cond (eqb rules 2) (hop + 1) 0)

abbrev pub receive_says : Host → ℕ → ℕ → ℕ → Held → Said
receive_says h u arrival hop x = said_by (receive_refusal h u arrival hop x) (relay_links h arrival hop) (relay_hop h.rules hop)

-- what a received copy is answered, of a sound state
abbrev pub receive_answer : Host → ℕ → ℕ → ℕ → Held → Bool → Bool → Bool → Said
receive_answer h u arrival hop x same other named =
    said_by
    (first_of (receive_checks h u arrival hop x same other named))
    (cond (eqb hop 8) 0 (set_of (placed h.plan) (ends_but h.plan h.own arrival)))
    (relay_hop h.rules hop)

abbrev pub after_receive : Host → Reading → Held → Host
after_receive h u x = at h u h.started h.starts (insert before x (held_of h))

abbrev pub receive_host : Host → Reading → ℕ → ℕ → Held → Host
receive_host h u arrival hop x = unless (receive_refusal h u.0 arrival hop x) (after_receive h u x) h
