-- What a run sees of a host: the orders it carries, the calls it is given, and what it answers. Assumes nothing.
use Rattle.std.specs.Prelude.{◌≡◌, ◌⊎◌, Bool, true, List, [], ◌∷◌, ℕ, ◌<◌}
use Rattle.lists.specs.Members.{All}
use Rattle.orders.specs.declared.Order.{Order}

-- an order under its name: stamp, source and order are what hosts agree on, whatever else a host keeps beside them
pub record Carried : Type 0 where
  pub stamp : ℕ
  pub source : ℕ
  pub order : Order

-- a copy of it under way, with its hop
pub record Copy : Type 0 where
  pub what : Carried
  pub hop : ℕ

-- a host is told to start an order, or is handed a copy over a link
pub data Call : Type 0 where
  start : Order → Call
  receive : ℕ → Copy → Call

-- a refusal number; or the state after the call, what it holds and sends, the set of links to send it on, and the hop to send
pub data Answer (S : Type 0) : Type 0 where
  refused : ℕ → Answer S
  accepted : S → Carried → (ℕ → Bool) → ℕ → Answer S

-- a host: its state at first, by its number; its other calls; and its tick at a reading, with so much room lent: the refusal, 0 for none, the
-- state after it, what it delivers, and whether the room is enough for all that is due. What it holds, and its last starts, serve the proof
pub record Host : Type 1 where
  pub State : Type 0
  pub fresh : ℕ → State
  pub call : ℕ → State → Call → Answer State
  pub refusal : ℕ → ℕ → State → ℕ
  pub tick : ℕ → ℕ → State → State
  pub delivered : ℕ → ℕ → State → List Carried
  pub lent : ℕ → ℕ → State → Type 0
  pub held : State → List Carried
  pub starts : State → List ℕ

-- the state after an answer
abbrev pub after : {S : Type 0} → Answer S → S → S
after (refused r) s = s
after (accepted s' x on hop) s = s'

-- the call is accepted; it holds x; it sends this copy on link k; it is refused with r
abbrev pub Unrefused : {S : Type 0} → Answer S → Type 0
Unrefused (refused r) = ⊥
Unrefused (accepted s x on hop) = Unit {0}

abbrev pub Takes : {S : Type 0} → Answer S → Carried → Type 0
Takes (refused r) x = ⊥
Takes (accepted s y on hop) x = x ≡ y

abbrev pub Sends : {S : Type 0} → Answer S → Copy → ℕ → Type 0
Sends (refused r) c k = ⊥
Sends (accepted s y on hop) c k = (c ≡ record { what = y; hop = hop }) × (on k ≡ true)

abbrev pub Refuses : {S : Type 0} → Answer S → ℕ → Type 0
Refuses (refused r) k = r ≡ k
Refuses (accepted s y on hop) k = ⊥

-- host p is told at reading U to start x: "T = U. The order is held under (T, own number)"
abbrev pub IsStart : ℕ → ℕ → Carried → Call → Type 0
IsStart p U x (start o) = x ≡ record { stamp = U; source = p; order = o }
IsStart p U x (receive k c) = ⊥

-- it is told to start something; it is handed something
abbrev pub IsTold : Call → Type 0
IsTold (start o) = Unit {0}
IsTold (receive k c) = ⊥

abbrev pub IsHanded : Call → Type 0
IsHanded (start o) = ⊥
IsHanded (receive k c) = Unit {0}

-- it is handed that copy over link k
abbrev pub IsReceive : ℕ → Copy → Call → Type 0
IsReceive k c (start o) = ⊥
IsReceive k c (receive k' c') = (k ≡ k') × (c ≡ c')

-- x goes before y: "in rising stamp and, at equal stamps, rising source"
abbrev pub Before : Carried → Carried → Type 0
Before x y = (x.stamp < y.stamp) ⊎ ((x.stamp ≡ y.stamp) × (x.source < y.source))

abbrev pub Rising : List Carried → Type 0
Rising [] = Unit {0}
Rising (x ∷ l) = All (Before x) l × Rising l

abbrev pub SameName : Carried → Carried → Type 0
SameName x y = (x.stamp ≡ y.stamp) × (x.source ≡ y.source)
