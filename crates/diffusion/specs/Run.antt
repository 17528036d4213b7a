-- Demand 3: a run of hosts, what is taken for granted of it, and what is claimed. Assumes nothing.
use Rattle.std.specs.Prelude.{◌≡◌, ◌⊎◌, false, cond, List, [], ◌∷◌, ◌++◌, map, leb}
use Prim.Native.Nat.{ℕ, zero, suc, ◌+◌, ◌≤◌, ◌<◌}
use Rattle.lists.specs.Lists.{keep}
use Rattle.lists.specs.Members.{In}
use Rattle.clock.specs.Clock.{largest_reading}
use Rattle.network.specs.Network.{n, m, δ, ε, link, has, worst, bound, FaultSet, Survivor}
use Rattle.network.specs.declared.Plan.{Plan}
use Rattle.network.specs.declared.Faults.{Faults}
use Rattle.diffusion.specs.Hosts.{Carried, Copy, Call, Host, after, Unrefused, Takes, Sends, Refuses, IsStart, IsTold, IsHanded, IsReceive, Rising}

-- ---- a run

-- each host's offset; the calls that it is given at each tick, in any order, after it is ticked; the room lent to that tick; the last tick; and
-- which hosts and links are faulty
pub record Story : Type 0 where
  pub offset : ℕ → ℕ
  pub calls : ℕ → ℕ → List Call
  pub room : ℕ → ℕ → ℕ
  pub end : ℕ
  pub faults : Faults

-- "a reading is a real tick plus that host's offset": all clocks run at one rate
abbrev pub reading : Story → ℕ → ℕ → ℕ
reading R p t = t + R.offset p

-- past the last tick nothing is called, and what is due has room
abbrev pub calls_at : Story → ℕ → ℕ → List Call
calls_at R p t = cond (leb t R.end) (R.calls p t) []

abbrev pub room_at : Story → ℕ → ℕ → ℕ
room_at R p t = cond (leb t R.end) (R.room p t) 512

module _ (H : Host) where
  -- the state after a list of calls at reading U
  unfoldable pub run : ℕ → H.State → List Call → H.State
  run U s [] = s
  run U s (c ∷ cs) = run U (after (H.call U s c) s) cs

  -- some call of the list, with the state that it met, is as Q says
  unfoldable pub Some : (H.State → Call → Type 0) → ℕ → H.State → List Call → Type 0
  Some Q U s [] = ⊥
  Some Q U s (c ∷ cs) = Q s c ⊎ Some Q U (after (H.call U s c) s) cs

  module _ (R : Story) where
    -- the state of host p before tick t: fresh at first; "each host is ticked first at every reading"
    unfoldable pub before : ℕ → ℕ → H.State
    unfolding run
    before p zero = H.fresh p
    before p (suc t) = run (reading R p t) (H.tick (reading R p t) (room_at R p t) (before p t)) (calls_at R p t)

    -- the state once it is ticked there
    abbrev pub ticked : ℕ → ℕ → H.State
    ticked p t = H.tick (reading R p t) (room_at R p t) (before p t)

    -- what that tick delivers
    abbrev pub delivers : ℕ → ℕ → List Carried
    delivers p t = H.delivered (reading R p t) (room_at R p t) (before p t)

    -- a call of host p at tick t is as Q says
    abbrev pub Happens : (H.State → Call → Type 0) → ℕ → ℕ → Type 0
    Happens Q p t = Some Q (reading R p t) (ticked p t) (calls_at R p t)

    -- at tick t host p is told to start x and does not refuse; takes x; sends this copy on link k; is handed it over link k; refuses with r
    abbrev pub Starts-at : ℕ → ℕ → Carried → Type 0
    Starts-at p t x = Happens (λ s c. IsStart p (reading R p t) x c × Unrefused (H.call (reading R p t) s c)) p t

    abbrev pub Takes-at : ℕ → ℕ → Carried → Type 0
    Takes-at p t x = Happens (λ s c. Takes (H.call (reading R p t) s c) x) p t

    abbrev pub Sends-at : ℕ → ℕ → Copy → ℕ → Type 0
    Sends-at p t c k = Happens (λ s d. Sends (H.call (reading R p t) s d) c k) p t

    abbrev pub Handed-at : ℕ → ℕ → ℕ → Copy → Type 0
    Handed-at p t k c = Happens (λ s d. IsReceive k c d) p t

    abbrev pub Refuses-at : ℕ → ℕ → ℕ → Type 0
    Refuses-at p t r = Happens (λ s c. Refuses (H.call (reading R p t) s c) r) p t

    -- refuses a start with r; refuses a copy with r
    abbrev pub Refuses-start-at : ℕ → ℕ → ℕ → Type 0
    Refuses-start-at p t r = Happens (λ s c. IsTold c × Refuses (H.call (reading R p t) s c) r) p t

    abbrev pub Refuses-copy-at : ℕ → ℕ → ℕ → Type 0
    Refuses-copy-at p t r = Happens (λ s c. IsHanded c × Refuses (H.call (reading R p t) s c) r) p t

    -- all that p has delivered up to tick t, each with the reading
    unfoldable pub log : ℕ → ℕ → List (ℕ × Carried)
    log p zero = map (λ x. (reading R p zero, x)) (delivers p zero)
    log p (suc t) = log p t ++ map (λ x. (reading R p (suc t), x)) (delivers p (suc t))

    -- what of it was delivered at readings up to U
    abbrev pub up_to : ℕ → List (ℕ × Carried) → List (ℕ × Carried)
    up_to U l = keep (λ e. leb e.0 U) l

-- link k has the ends p and q
abbrev pub Joins : Plan → ℕ → ℕ → ℕ → Type 0
Joins P k p q = (k < m P) × ((((link P k).a ≡ p) × ((link P k).b ≡ q)) ⊎ (((link P k).a ≡ q) × ((link P k).b ≡ p)))

-- ---- what is taken for granted, a field for each sentence of demand 3

-- "takes between 1 tick and the planned delay .. as it was sent, and nothing else arrives": a copy that is handed over was sent, in time
abbrev pub Arrives : Plan → Host → Story → Type 0
Arrives P H R =
    (q t k : ℕ) (c : Copy) → q < n P → Handed-at H R q t k c → (p : ℕ) × (u : ℕ) × Joins P k p q × (u < t) × (t ≤ u + δ P) × Sends-at H R p u c k

pub record Premises (P : Plan) (H : Host) (R : Story) : Type 0 where
  -- "Only faulty hosts or links, within the planned numbers"
  pub faults : FaultSet P R.faults
  -- "less than the planned skew apart"
  pub close : (p q : ℕ) → p < n P → q < n P → R.offset p < R.offset q + ε P
  -- "with room lent for all that is due"
  pub room : (p t : ℕ) → p < n P → t ≤ R.end → H.lent (reading R p t) (R.room p t) (before H R p t)
  pub arrives : Arrives P H R
  -- only a copy of a faulty sender, link or receiver is lost; any other arrives, if the run goes on till then
  pub no_loss : (p t k q : ℕ) (c : Copy) → Joins P k p q → Survivor P R.faults p → has R.faults.links k ≡ false → Survivor P R.faults q → Sends-at H R p t c k
      → (v : ℕ) × (t < v) × (v ≤ t + δ P) × (v ≤ R.end → Handed-at H R q v k c)

-- ---- what is claimed

pub record Claims (P : Plan) (H : Host) (R : Story) : Type 0 where
  -- "any two faultless hosts have delivered, up to any reading both have reached, the same orders at the same readings in the same sequence"
  pub same : (p q U : ℕ) → Survivor P R.faults p → Survivor P R.faults q → U ≤ reading R p R.end → U ≤ reading R q R.end
      → up_to H R U (log H R p R.end) ≡ up_to H R U (log H R q R.end)
  -- "An order started and not refused at a faultless host at reading T is delivered at T plus the bound on each faultless host whose clock gets there"
  pub delivered : (s q t u : ℕ) (x : Carried) → Survivor P R.faults s → Survivor P R.faults q → Starts-at H R s t x
      → u ≤ R.end → reading R q u ≡ x.stamp + bound 1 P (worst P) → In x (delivers H R q u)
  -- "Nothing is delivered that no host started"
  pub started : (p t : ℕ) (x : Carried) → p < n P → In x (delivers H R p t) → (s : ℕ) × (u : ℕ) × (s < n P) × (u < t) × Starts-at H R s u x
  -- "no order is turned away for a full history"; and "none of 14, 20, 21 occurs"
  pub never_14 : (p t : ℕ) → p < n P → Refuses-at H R p t 14 → ⊥
  pub never_20 : (p t : ℕ) → p < n P → Refuses-at H R p t 20 → ⊥
  pub never_21 : (p t : ℕ) → p < n P → Refuses-at H R p t 21 → ⊥
  -- which refusals a run can see: a start 23, 10, 12 and 13, a copy 18 and 19, a tick 10, and that only above the largest reading
  pub start_answers : (p t r : ℕ) → p < n P → Refuses-start-at H R p t r → In r (23 ∷ 10 ∷ 12 ∷ 13 ∷ [])
  pub copy_answers : (p t r : ℕ) → p < n P → Refuses-copy-at H R p t r → In r (18 ∷ 19 ∷ [])
  pub tick_answers : (p t : ℕ) → p < n P → t ≤ R.end → reading R p t ≤ largest_reading → H.refusal (reading R p t) (R.room p t) (before H R p t) ≡ 0
  -- every delivery is at its due reading, and what a host delivers rises strictly by stamp and source, so that nothing comes twice
  pub on_time : (p t : ℕ) (x : Carried) → p < n P → t ≤ R.end → In x (delivers H R p t) → reading R p t ≡ x.stamp + bound 1 P (worst P)
  pub rises : (p : ℕ) → p < n P → Rising (map (λ e. e.1) (log H R p R.end))
