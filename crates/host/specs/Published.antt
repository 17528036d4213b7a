-- The tasks Start, Relay and Delivery of source 004, figures 1 to 5, over a history that is a set of triples (T, s, σ), and what it is that this
-- build's calls do as published. Assumes nothing.
use Rattle.std.specs.Prelude.{◌≡◌, ◌⊎◌, Bool, true, ◌&&◌, ◌||◌, ℕ, ◌+◌, ◌*◌, ◌≤◌, ◌<◌, leb}
use Rattle.lists.specs.Members.{In}
use Rattle.clock.specs.declared.Reading.{Reading}
use Rattle.orders.specs.declared.Order.{Order}
use Rattle.network.specs.Network.{m, δ, ε, has}
use Rattle.network.specs.declared.Plan.{Plan}
use Rattle.host.specs.declared.Held.{Held}
use Rattle.host.specs.declared.Host.{Host}
use Rattle.host.specs.State.{held_of}
use Rattle.host.specs.OwnLinks.{ends}
use Rattle.host.specs.Start.{start_of, start_says, start_host}
use Rattle.host.specs.Receive.{receive_refusal, receive_says, receive_host}
use Rattle.host.specs.Tick.{due_of, tick_host}

-- ---- the figures

pub data Protocol : Type 0 where
  first : Protocol
  second : Protocol

-- "a history variable H, a set of triples"
abbrev pub History : Type 1
History = Held → Type 0

-- "add (T, s, σ) to H"
abbrev pub added : Held → History → History
added x H y = (y ≡ x) ⊎ H y

-- "T - hε < U < T + h(δ + ε)": the displayed test, its first comparison as a sum; the first protocol has none
abbrev pub TooEarly : Protocol → Plan → ℕ → ℕ → ℕ → Type 0
TooEarly first p h U T = ⊥
TooEarly second p h U T = T < U + h * ε p → ⊥

abbrev pub TooLate : Protocol → Plan → ℕ → ℕ → ℕ → Type 0
TooLate first p h U T = ⊥
TooLate second p h U T = U < T + h * (δ p + ε p) → ⊥

-- where the cycle of the Relay task ends for a message: at one of its tests, with "iterate", or with the message relayed
pub data Line : Type 0 where
  too_early : Line
  too_late : Line
  late_message : Line
  deja_vu : Line
  relays : Line

-- the Relay task, figures 2 and 5: the message x with hop h, got at U, leads to that line
abbrev pub Relay : Protocol → Plan → ℕ → History → ℕ → ℕ → Held → Line → Type 0
Relay q p Δ H h U x too_early = TooEarly q p h U x.stamp.0
Relay q p Δ H h U x too_late = (TooEarly q p h U x.stamp.0 → ⊥) × TooLate q p h U x.stamp.0
Relay q p Δ H h U x late_message =
    (TooEarly q p h U x.stamp.0 → ⊥) × (TooLate q p h U x.stamp.0 → ⊥) × (x.stamp.0 + Δ ≤ U)
Relay q p Δ H h U x deja_vu =
    (TooEarly q p h U x.stamp.0 → ⊥) × (TooLate q p h U x.stamp.0 → ⊥) × (U < x.stamp.0 + Δ) × H x
Relay q p Δ H h U x relays =
    (TooEarly q p h U x.stamp.0 → ⊥) × (TooLate q p h U x.stamp.0 → ⊥) × (U < x.stamp.0 + Δ) × (H x → ⊥)

-- only there does it send, "for all l ∈ L - {i}", and add to the history
abbrev pub Sends : Line → Type 0
Sends too_early = ⊥
Sends too_late = ⊥
Sends late_message = ⊥
Sends deja_vu = ⊥
Sends relays = Unit {0}

abbrev pub Leaves : Line → Held → History → History
Leaves too_early x H = H
Leaves too_late x H = H
Leaves late_message x H = H
Leaves deja_vu x H = H
Leaves relays x H = added x H

-- the hop that the second protocol's Start (4.4) and Relay (5.8) send; the first protocol's messages have none, which this build writes as 0
abbrev pub start_hop : Protocol → ℕ
start_hop first = 0
start_hop second = 1

abbrev pub relayed_hop : Protocol → ℕ → ℕ
relayed_hop first h = 0
relayed_hop second h = h + 1

-- Delivery(T), figure 3: it delivers "(T, s, σ) ∈ H", and deletes "all triples with first element T"
abbrev pub delivers : History → ℕ → History
delivers H T x = H x × (x.stamp.0 ≡ T)

-- ---- this build's calls beside them

abbrev pub Both : Type 0 → Type 0 → Type 0
Both A B = (A → B) × (B → A)

abbrev pub Runs : Protocol → ℕ → Type 0
Runs first rules = rules ≡ 1
Runs second rules = rules ≡ 2

-- the history of a host as a set; its links, the set L of the figures
abbrev pub history_of : Host → History
history_of h x = In x (held_of h)

abbrev pub Adjacent : Host → ℕ → Type 0
Adjacent h l = (l < m h.plan) × (ends h.plan h.own l ≡ true)

-- "Refusals 9 to 15, 20 to 23 .. are this build's own"
abbrev pub is_own : ℕ → Bool
is_own k = leb 9 k && leb k 15 || leb 20 k && leb k 23

-- the number of each line: "iterate" is a refusal, 16 to 19
abbrev pub number_of : Line → ℕ
number_of too_early = 16
number_of too_late = 17
number_of late_message = 18
number_of deja_vu = 19
number_of relays = 0

-- figures 1 and 4; line 5 adds (T, s, σ) with s never set: the own name is meant
pub record AsStart (q : Protocol) (h : Host) (u : Reading) (o : Order) : Type 0 where
  pub history : (y : Held) → Both (history_of (start_host h u o) y) (added (start_of h u o) (history_of h) y)
  pub links : (l : ℕ) → Both (has (start_says h u.0 o).links l ≡ true) (Adjacent h l)
  pub hop : (start_says h u.0 o).hop ≡ start_hop q

-- figures 2 and 5; the end of relaying at hop 8 is this build's own
pub record AsRelay (q : Protocol) (h : Host) (u : Reading) (arrival hop : ℕ) (x : Held) : Type 0 where
  pub line : Line
  pub leads : Relay q h.plan h.bound (history_of h) hop u.0 x line
  pub number : receive_refusal h u.0 arrival hop x ≡ number_of line
  pub history : (y : Held) → Both (history_of (receive_host h u arrival hop x) y) (Leaves line x (history_of h) y)
  pub links : (hop ≡ 8 → ⊥) → (l : ℕ) → Both (has (receive_says h u.0 arrival hop x).links l ≡ true) (Sends line × Adjacent h l × (l ≡ arrival → ⊥))
  pub next_hop : (hop ≡ 8 → ⊥) → Sends line → (receive_says h u.0 arrival hop x).hop ≡ relayed_hop q hop
  pub last_hop : hop ≡ 8 → ((receive_says h u.0 arrival hop x).links ≡ 0) × ((receive_says h u.0 arrival hop x).hop ≡ 0)

-- figure 3, at the reading U, for the T of which T + Δ = U: the published Delivery, where no held order is past its T + Δ
pub record AsDelivery (h : Host) (u : Reading) (room : ℕ) : Type 0 where
  pub delivered : (y : Held) → Both (In y (due_of h u.0)) ((T : ℕ) × (T + h.bound ≡ u.0) × delivers (history_of h) T y)
  pub history : (y : Held) → Both (history_of (tick_host h u room) y) (history_of h y × ((T : ℕ) → T + h.bound ≡ u.0 → y.stamp.0 ≡ T → ⊥))

-- a tick past T + Δ is this build's own: it is Delivery(T) of every T with T + Δ ≤ U
pub record AsDeliveries (h : Host) (u : Reading) (room : ℕ) : Type 0 where
  pub delivered : (y : Held) → Both (In y (due_of h u.0)) ((T : ℕ) × (T + h.bound ≤ u.0) × delivers (history_of h) T y)
  pub history : (y : Held) → Both (history_of (tick_host h u room) y) (history_of h y × ((T : ℕ) → T + h.bound ≤ u.0 → y.stamp.0 ≡ T → ⊥))
