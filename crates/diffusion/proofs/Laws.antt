-- What the proof of demand 3 needs of a host, in two parts: laws that are free of the rule set, and laws of the first rules. And what it needs of
-- a plan and of a run's clocks and copies, on every faultless clock at once. Assumes nothing.
use mathlib.Core.Path.{◌≡◌}
use mathlib.Core.Logic.{◌⊎◌}
use mathlib.Core.Bool.{true, false}
use mathlib.Core.List.{List, [], ◌∷◌}
use Prim.Native.Nat.{ℕ, suc, ◌+◌, ◌*◌, ◌≤◌, ◌<◌}
use lib.ListN.{length, take}
use Rattle.lists.specs.Searches.{count}
use Rattle.lists.specs.Members.{In, All}
use Rattle.orders.specs.declared.Order.{Order}
use Rattle.orders.specs.Orders.{share_fits}
use Rattle.clock.specs.Clock.{largest_reading, largest_stamp}
use Rattle.network.specs.Network.{n, π, δ, ε, has, within, worst, bound, window, FaultSet, Survivor}
use Rattle.network.specs.declared.Plan.{Plan}
use Rattle.network.specs.declared.Faults.{Faults}
use Rattle.diffusion.specs.Hosts.{Carried, Copy, Call, start, receive, Host, after, Unrefused, Takes, Sends, Refuses, Rising, SameName}
use Rattle.diffusion.specs.Run.{Story, reading, before, Sends-at, Handed-at, Joins}

-- the bound and the starting window of the first rules, with planning's d
abbrev pub Δ : Plan → ℕ
Δ P = bound 1 P (worst P)

abbrev pub W : Plan → ℕ
W P = window 1 P (worst P)

-- link k is one of host p's own
abbrev pub Owns : Plan → ℕ → ℕ → Type 0
Owns P p k = (q : ℕ) × Joins P k p q

-- the fourth last start, if there were four, lies W back; the last start stands first
abbrev pub Fourth : ℕ → ℕ → List ℕ → Type 0
Fourth W U [] = Unit {0}
Fourth W U (a ∷ []) = Unit {0}
Fourth W U (a ∷ b ∷ []) = Unit {0}
Fourth W U (a ∷ b ∷ c ∷ []) = Unit {0}
Fourth W U (a ∷ b ∷ c ∷ e ∷ l) = e + W ≤ U

-- nothing is held under x's name
abbrev pub NoName : List Carried → Carried → Type 0
NoName l x = (y : Carried) → In y l → SameName y x → ⊥

-- ---- laws that are free of the rule set

pub record Laws (P : Plan) (H : Host) : Type 1 where
  -- the state is sound, is host p's, and its last reading is at most U
  pub Ok : ℕ → ℕ → H.State → Type 0
  pub ok_fresh : (p U : ℕ) → p < n P → Ok p U (H.fresh p)
  pub ok_later : (p U U' : ℕ) (s : H.State) → U ≤ U' → Ok p U s → Ok p U' s
  pub ok_tick : (p U room : ℕ) (s : H.State) → Ok p U s → Ok p U (H.tick U room s)
  pub ok_call : (p U : ℕ) (s : H.State) (c : Call) → Ok p U s → Ok p U (after (H.call U s c) s)
  pub rising : (p U : ℕ) (s : H.State) → Ok p U s → Rising (H.held s)
  pub held_fresh : (p : ℕ) (x : Carried) → In x (H.held (H.fresh p)) → ⊥
  -- a tick
  pub lent_enough : (p U : ℕ) (s : H.State) → Ok p U s → H.lent U 512 s
  pub tick_keeps : (p U room : ℕ) (s : H.State) (x : Carried) → Ok p U s → In x (H.held s) → U < x.stamp + Δ P → In x (H.held (H.tick U room s))
  pub tick_adds_none : (U room : ℕ) (s : H.State) (x : Carried) → In x (H.held (H.tick U room s)) → In x (H.held s)
  pub tick_clears : (p U room : ℕ) (s : H.State) (x : Carried) → Ok p U s → U ≤ largest_reading → H.lent U room s → In x (H.held (H.tick U room s)) → U < x.stamp + Δ P
  pub delivered_rising : (p U room : ℕ) (s : H.State) → Ok p U s → Rising (H.delivered U room s)
  pub delivered_held : (p U room : ℕ) (s : H.State) (x : Carried) → Ok p U s → In x (H.delivered U room s) → In x (H.held s) × (x.stamp + Δ P ≤ U) × (U ≤ largest_reading)
  pub delivered_all : (p U room : ℕ) (s : H.State) (x : Carried) → Ok p U s → U ≤ largest_reading → H.lent U room s → In x (H.held s) → x.stamp + Δ P ≤ U → In x (H.delivered U room s)
  -- the last four starts, the last first
  pub starts_fresh : (p : ℕ) → H.starts (H.fresh p) ≡ []
  pub starts_tick : (U room : ℕ) (s : H.State) → H.starts (H.tick U room s) ≡ H.starts s
  pub starts_receive : (U : ℕ) (s : H.State) (k : ℕ) (c : Copy) → H.starts (after (H.call U s (receive k c)) s) ≡ H.starts s
  pub starts_start : (p U : ℕ) (s : H.State) (o : Order) (x : Carried) → Ok p U s → Takes (H.call U s (start o)) x → H.starts (after (H.call U s (start o)) s) ≡ take 4 (U ∷ H.starts s)
  -- what is held after a call
  pub call_held : (U : ℕ) (s : H.State) (c : Call) (y : Carried) → In y (H.held (after (H.call U s c) s)) → Takes (H.call U s c) y ⊎ In y (H.held s)
  pub call_keeps : (U : ℕ) (s : H.State) (c : Call) (y : Carried) → In y (H.held s) → In y (H.held (after (H.call U s c) s))
  pub call_adds : (U : ℕ) (s : H.State) (c : Call) (y : Carried) → Takes (H.call U s c) y → In y (H.held (after (H.call U s c) s))
  -- a start that is not refused holds the order that was given, under its name
  pub start_takes : (p U : ℕ) (s : H.State) (o : Order) → Ok p U s → Unrefused (H.call U s (start o)) → Takes (H.call U s (start o)) (record { stamp = U; source = p; order = o })
  pub take_start : (p U : ℕ) (s : H.State) (o : Order) (x : Carried) → Ok p U s → Takes (H.call U s (start o)) x
      → (x ≡ record { stamp = U; source = p; order = o }) × (U ≤ largest_stamp) × (share_fits o ≡ true) × All (λ a. a < U) (H.starts s) × Fourth (W P) U (H.starts s)
  pub sends_start : (p U : ℕ) (s : H.State) (o : Order) (x : Carried) (k : ℕ) → Ok p U s → Takes (H.call U s (start o)) x → Owns P p k
      → (h : ℕ) × Sends (H.call U s (start o)) (record { what = x; hop = h }) k
  pub full_start : (p U : ℕ) (s : H.State) (o : Order) → Ok p U s → Refuses (H.call U s (start o)) 14
      → (32 ≤ length (H.held s)) × (U ≤ largest_stamp) × All (λ a. a < U) (H.starts s) × Fourth (W P) U (H.starts s)
  -- which refusals a start can get, and a tick with enough room
  pub start_refusals : (p U : ℕ) (s : H.State) (o : Order) (r : ℕ) → Ok p U s → Refuses (H.call U s (start o)) r → In r (23 ∷ 10 ∷ 12 ∷ 13 ∷ 14 ∷ [])
  pub tick_refusal_lem : (p U room : ℕ) (s : H.State) → Ok p U s → H.lent U room s → U ≤ largest_reading → H.refusal U room s ≡ 0
  pub other_start : (U : ℕ) (s : H.State) (o : Order) → Refuses (H.call U s (start o)) 20 ⊎ Refuses (H.call U s (start o)) 21 → ⊥

-- ---- laws of the first rules

pub record FirstRules (P : Plan) (H : Host) (A : Laws P H) : Type 0 where
  -- every copy is sent with hop 0
  pub sent_hop : (p U : ℕ) (s : H.State) (c : Call) (x : Copy) (k : ℕ) → A.Ok p U s → Sends (H.call U s c) x k → x.hop ≡ 0
  pub take_receive : (p U : ℕ) (s : H.State) (k : ℕ) (c : Copy) (x : Carried) → A.Ok p U s → Takes (H.call U s (receive k c)) x
      → (x ≡ c.what) × (U < x.stamp + Δ P) × (U ≤ largest_reading) × NoName (H.held s) x × (x.source ≡ p → ⊥)
  pub sends_receive : (p U : ℕ) (s : H.State) (j : ℕ) (c : Copy) (x : Carried) (k : ℕ) → A.Ok p U s → Takes (H.call U s (receive j c)) x → Owns P p k → (k ≡ j → ⊥)
      → (h : ℕ) × Sends (H.call U s (receive j c)) (record { what = x; hop = h }) k
  -- a copy in time is taken, or its name is held, or it is one of the cases that do not occur
  pub progress : (p U : ℕ) (s : H.State) (k : ℕ) (c : Copy) → A.Ok p U s → U ≤ largest_reading → Owns P p k
      → c.what.source < n P → c.what.stamp ≤ largest_stamp → share_fits c.what.order ≡ true → c.hop ≡ 0 → U < c.what.stamp + Δ P
      → Takes (H.call U s (receive k c)) c.what
      ⊎ (((y : Carried) × In y (H.held s) × SameName y c.what) ⊎ (NoName (H.held s) c.what × ((c.what.source ≡ p) ⊎ (32 ≤ length (H.held s)))))
  -- which refusals a copy as it was sent can get
  pub receive_refusals : (p U : ℕ) (s : H.State) (k : ℕ) (c : Copy) (r : ℕ) → A.Ok p U s → U ≤ largest_reading → Owns P p k
      → c.what.source < n P → c.what.stamp ≤ largest_stamp → share_fits c.what.order ≡ true → c.hop ≡ 0
      → Refuses (H.call U s (receive k c)) r → In r (18 ∷ 19 ∷ 20 ∷ 21 ∷ 14 ∷ [])
  pub full_receive : (p U : ℕ) (s : H.State) (k : ℕ) (c : Copy) → A.Ok p U s → Refuses (H.call U s (receive k c)) 14
      → (32 ≤ length (H.held s)) × (U ≤ largest_reading) × (U < c.what.stamp + Δ P) × NoName (H.held s) c.what
  pub other_receive : (p U : ℕ) (s : H.State) (k : ℕ) (c : Copy) → A.Ok p U s → Refuses (H.call U s (receive k c)) 20
      → (y : Carried) × In y (H.held s) × SameName y c.what × (y ≡ c.what → ⊥)
  pub own_receive : (p U : ℕ) (s : H.State) (k : ℕ) (c : Copy) → A.Ok p U s → Refuses (H.call U s (receive k c)) 21
      → (c.what.source ≡ p) × NoName (H.held s) c.what × (U < c.what.stamp + Δ P)

-- ---- the plan

pub record Sturdy (P : Plan) : Type 0 where
  pub hosts_most : n P ≤ 8
  pub skew_least : 1 ≤ ε P
  pub bound_least : 1 ≤ Δ P
  pub bound_most : Δ P ≤ 896
  pub delay_most : δ P + ε P ≤ 128
  pub bound_is : Δ P ≡ π P * δ P + worst P * δ P + ε P
  pub window_is : W P ≡ Δ P + ε P
  pub ends_in : (k p q : ℕ) → Joins P k p q → (p < n P) × (q < n P)
  pub reach : (f : Faults) → FaultSet P f → (p q : ℕ) → Survivor P f p → Survivor P f q → within P f (worst P) p q ≡ true

-- ---- the run

-- from tick u to tick v no faultless host's clock moves by more than b
abbrev pub Lasts : Plan → Story → ℕ → ℕ → ℕ → Type 0
Lasts P R u v b = (r : ℕ) → Survivor P R.faults r → reading R r v ≤ reading R r u + b

pub record Timed (P : Plan) (H : Host) (R : Story) : Type 0 where
  pub set : FaultSet P R.faults
  pub few_hosts : count (n P) (has R.faults.hosts) ≤ π P
  pub steady : (p t : ℕ) → reading R p t ≤ reading R p (suc t)
  pub close : (p q t : ℕ) → p < n P → q < n P → reading R p t < reading R q t + ε P
  pub room : (p t : ℕ) → p < n P → t ≤ R.end → H.lent (reading R p t) (R.room p t) (before H R p t)
  pub arrives : (q t k : ℕ) (c : Copy) → q < n P → Handed-at H R q t k c
      → (p : ℕ) × (u : ℕ) × Joins P k p q × (u < t) × Lasts P R u t (δ P) × Sends-at H R p u c k × (reading R q t < reading R p u + δ P + ε P)
  pub no_loss : (p t k q : ℕ) (c : Copy) → Joins P k p q → Survivor P R.faults p → has R.faults.links k ≡ false → Survivor P R.faults q → Sends-at H R p t c k
      → (v : ℕ) × (t < v) × Lasts P R t v (δ P) × (v ≤ R.end → Handed-at H R q v k c)
