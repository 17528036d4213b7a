-- Calls and first states that differ from our hosts' in one thing, for the witnesses. Assumes nothing.
use Rattle.std.specs.Prelude.{Bool, cond, List, map, ℕ, suc, eqb}
use Rattle.lists.specs.Tests.{first_of}
use Rattle.orders.specs.declared.Order.{Order}
use Rattle.orders.specs.declared.Order.TheVariants.{Publish, Halt, Resume, Withdraw}
use Rattle.network.specs.Network.{bound, diameter}
use Rattle.network.specs.declared.Plan.{Plan}
use Rattle.host.specs.declared.Host.{Host}
use Rattle.host.specs.Answers.{said_by, unless}
use Rattle.host.specs.Make.{cleared, unstarted}
use Rattle.host.specs.Receive.{receive_tests, relay_links, relay_hop, after_receive}
use Rattle.host.specs.Tick.{due}
use Rattle.diffusion.specs.Hosts as hosts
use Rattle.diffusion.specs.Hosts.{Carried, Call, start, receive, Answer, refused, accepted}
use Rattle.diffusion.specs.Ours.{shown, held_as, answered, called}
use Rattle.diffusion.specs.Example.{faulty}

-- the calls, but that a copy is refused 18 only past T + Δ: "Accepting at U = T + Δ"
abbrev pub late_tests : Host → ℕ → ℕ → ℕ → Carried → List (ℕ × Bool)
late_tests h u k hop x = map (λ t. cond (eqb t.0 18) (18, due (suc h.bound) u (held_as x)) t) (receive_tests h u k hop (held_as x))

abbrev pub takes_late : ℕ → Host → Call → Answer Host
takes_late u h (start o) = called u h (start o)
takes_late u h (receive k c) =
    answered (said_by (first_of (late_tests h u k c.hop c.what)) (relay_links h k c.hop) (relay_hop h.rules c.hop))
    (unless (first_of (late_tests h u k c.hop c.what)) (after_receive h (shown u) (held_as c.what)) h) c.what

-- the calls, but that a halt is held as a resume
abbrev pub otherwise : Order → Order
otherwise (Publish image share) = Publish image share
otherwise (Halt image) = Resume image
otherwise (Resume image) = Resume image
otherwise (Withdraw image) = Withdraw image

abbrev pub starts_other : ℕ → Host → Call → Answer Host
starts_other u h (start o) = called u h (start (otherwise o))
starts_other u h (receive k c) = called u h (receive k c)

-- the calls, but that a halt that is started and held is sent as a resume
abbrev pub sent_other : Answer Host → Answer Host
sent_other (refused r) = refused r
sent_other (accepted h x on hop) = accepted h (record { stamp = x.stamp; source = x.source; order = otherwise x.order }) on hop

abbrev pub sends_other : ℕ → Host → Call → Answer Host
sends_other u h (start o) = sent_other (called u h (start o))
sends_other u h (receive k c) = called u h (receive k c)

-- the calls, but that every start is refused 14
abbrev pub idle : ℕ → Host → Call → Answer Host
idle u h (start o) = refused 14
idle u h (receive k c) = called u h (receive k c)

-- a fresh host, but that d is the diameter of the whole network: "Taking d of the whole network"
abbrev pub whole_d : Plan → ℕ → Host
whole_d P own = unstarted (cleared P) 1 (diameter P (faulty 0 0)) (bound 1 P (diameter P (faulty 0 0))) own

-- hosts for which a run need lend no room
abbrev pub unlent : hosts.Host → hosts.Host
unlent H =
    record {
      State = H.State;
      fresh = H.fresh;
      call = H.call;
      refusal = H.refusal;
      tick = H.tick;
      delivered = H.delivered;
      lent = λ u room s. Unit {0};
      held = H.held;
      starts = H.starts;
    }
