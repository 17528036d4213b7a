-- No host's last reading is past what its clock shows; so it takes each tick of a run, and its log has room for what is due. Assumes nothing.
use mathlib.Core.Path.{◌≡◌, refl, ap}
use mathlib.Core.Bool.{Bool, true, false, cond}
use mathlib.Core.List.{List, [], ◌∷◌}
use Prim.Native.Nat.{ℕ, zero, suc, ◌+◌, ◌*◌, ◌≤◌, ◌<◌}
use native.Mathlib.Nat.{le_refl}
use native.Mathlib.Omega.{arith}
use borrow.Author.Tests.{ltb-true, ltb-false}
use lib.Dec.{ltb, eqb}
use lib.ListN.{length, get_or, set}
use Rattle.lists.specs.Lists.{listed}
use Rattle.lists.proofs.Listing.{length_listed, get_or_listed}
use Rattle.lists.proofs.Loops.{keep_both}
use Rattle.clock.specs.declared.Reading.{Reading}
use Rattle.clock.specs.declared.Tick.{Tick}
use Rattle.network.specs.Network.{n}
use Rattle.host.specs.Make.{fresh}
use Rattle.host.specs.State.{held_of}
use Rattle.host.specs.Tick.{due_of, waiting_of}
use Rattle.host.specs.Calls.{Call, refusal, becomes, after}
use Rattle.host.specs.Calls as calls
use Rattle.host.specs.declared.Host.{Host}
use Rattle.host.proofs.Facts.{sound_is, tick_runs}
use Rattle.host.proofs.Keeps.{held_most}
use Rattle.host.proofs.Outcomes.{after_call}
use Rattle.schedule.specs.declared.Schedule.{Schedule}
use Rattle.engine.specs.declared.Log.{Log}
use Rattle.engine.specs.declared.Station.{Station}
use Rattle.engine.specs.declared.World.{World}
use Rattle.engine.specs.Turns.{in_turn}
use Rattle.engine.specs.Parts.{log_of, no_station, clock, start, order, start_of, link_of, receiver}
use Rattle.engine.specs.Run.{tick_one, tick_all, hand, arrives, arrive_one, tell, start_one, arrived, play, opening, world}
use Rattle.engine.specs.Inside.{Playable, Room}
use Rattle.engine.proofs.Turns.{keeps}
use Rattle.engine.proofs.Logs.{room_same, room_before}
use Rattle.engine.proofs.Kept.{Kept, room_kept}
use Rattle.engine.proofs.Worlds.{get_d_past, world_good}

last_most : (h : Host) (u : Reading) (c : Call) → h.last.0 ≤ u.0 → (after h u c).last.0 ≤ u.0
last_most h u c l = after_call (λ (g : Host). g.last.0 ≤ u.0) (refusal h u.0 c) (becomes h u c) h (λ e. go c) l
  where
    go : (c : Call) → (becomes h u c).last.0 ≤ u.0
    go (calls.start o) = le_refl u.0
    go (calls.receive arrival hop x) = le_refl u.0
    go (calls.ticks room) = le_refl u.0

-- what holds at each place holds after one is set, if it holds of the new one
pub set_each : {A : Type 0} (P : ℕ → A → Type 0) (l : List A) (q : ℕ) (a d : A) → ((p : ℕ) → P p (get_or l p d)) → P q a → (p : ℕ) → P p (get_or (set l q a) p d)
set_each P [] q a d f g p = f p
set_each P (x ∷ l) zero a d f g zero = g
set_each P (x ∷ l) zero a d f g (suc p) = f (suc p)
set_each P (x ∷ l) (suc q) a d f g zero = f zero
set_each P (x ∷ l) (suc q) a d f g (suc p) = set_each (λ i b. P (suc i) b) l q a d (λ i. f (suc i)) g p

abbrev pub Behind : Schedule → Tick → List Station → Type 0
Behind s t l = (p : ℕ) → (get_or l p no_station).host.last.0 ≤ (clock s t p).0

module _ (s : Schedule) where
  -- a call at what the host's clock shows
  called : (t : Tick) (l : List Station) (q : ℕ) (c : Call) (log : Log) → Behind s t l
      → Behind s t (set l q (record { host = after (get_or l q no_station).host (clock s t q) c; log = log }))
  called t l q c log f =
      set_each (λ (p : ℕ) (a : Station). a.host.last.0 ≤ (clock s t p).0) l q (record { host = after (get_or l q no_station).host (clock s t q) c; log = log }) no_station f
      (last_most (get_or l q no_station).host (clock s t q) c (f q))

  pub tick_behind : (t : Tick) (l : List Station) → Behind s t l → Behind s t (in_turn (n s.plan) (tick_one s t) l)
  tick_behind t l f = keeps (tick_one s t) (λ i k. Behind s t k) (n s.plan) l f (λ i k h g. called t k i (calls.ticks 512) _ g)

  pub arrive_behind : (t : Tick) (c : ℕ) (w : World) → Behind s t w.stations → Behind s t (arrive_one s t c w).stations
  arrive_behind t c w f = go (arrives t c w)
    where
      go : (b : Bool) → Behind s t (cond b (hand s t c (receiver s.plan c) w) w).stations
      go false = f
      go true = called t w.stations (receiver s.plan c) (calls.receive (link_of c) 0 (order s (start_of c))) _ f

  pub start_behind : (t : Tick) (k : ℕ) (w : World) → Behind s t w.stations → Behind s t (start_one s t k w).stations
  start_behind t k w f = go (eqb (start s k).tick.0 t.0)
    where
      go : (b : Bool) → Behind s t (cond b (tell s t k (start s k).host (start s k).order w) w).stations
      go false = f
      go true = called t w.stations (start s k).host (calls.start (start s k).order) _ f

  pub play_behind : (t : ℕ) (w : World) → Behind s (record { 0 = t }) w.stations → Behind s (record { 0 = suc t }) (play s t w).stations
  unfolding play
  play_behind t w f p =
      let i : Tick = record { 0 = t } in
      let arrives = keeps (arrive_one s i) (λ c v. Behind s i v.stations) (24 * s.start_count) (tick_all s i w) (tick_behind i w.stations f) (λ c v h g. arrive_behind i c v g) in
      let now = keeps (start_one s i) (λ k v. Behind s i v.stations) s.start_count (arrived s i (24 * s.start_count) w) arrives (λ k v h g. start_behind i k v g) p in
      omega arith

  pub open_behind : Behind s (record { 0 = 0 }) (opening s).stations
  unfolding opening
  open_behind p = go (ltb p 8) refl
    where
      f : ℕ → Station
      f i = record { host = fresh s.plan 1 i; log = log_of [] }

      go : (t : Bool) → ltb p 8 ≡ t → (get_or (listed 8 f) p no_station).host.last.0 ≤ (clock s (record { 0 = 0 }) p).0
      go true e = rw (get_or_listed 8 f p no_station (ltb-true p 8 e)) (omega arith)
      go false e =
          let past : 8 ≤ p = ltb-false p 8 e in
          rw (get_d_past (listed 8 f) p no_station (omega (arith, length_listed 8 f))) (omega arith)

  world_behind : (t : ℕ) → Behind s (record { 0 = t }) (world s t).stations
  world_behind t = keeps (play s) (λ i v. Behind s (record { 0 = i }) v.stations) t (opening s) open_behind (λ i v h g. play_behind i v g)

world_room : (s : Schedule) → Playable s → (t p : ℕ) → t ≤ 65_535 → p < n s.plan → Room (get_or (world s t).stations p no_station) (clock s (record { 0 = t }) p)
world_room s z t p soon h =
    let a : Station = get_or (world s t).stations p no_station in
    let u : Reading = clock s (record { 0 = t }) p in
    let k : Kept s p a = (world_good s z t).hosts p h in
    let split : length (due_of a.host u.0) + length (waiting_of a.host u.0) ≡ length (held_of a.host) = keep_both _ (held_of a.host) in
    let most : length (held_of a.host) ≤ a.host.held = held_most a.host in
    let held : a.host.held ≤ 32 = (sound_is a.host k.sound).held in
    let low : get_or s.offsets p 0 < 64 = z.offsets p h in
    record {
      sized = k.sized;
      taken = tick_runs a.host u.0 512 (record { sound = sound_is a.host k.sound; reading = omega arith; later = world_behind s t p; fits = omega arith });
      log = k.set_out;
      room = room_kept s p a u k z.few;
    }

-- within a tick, of a host whose turn has not come
pub turn_room : (s : Schedule) → Playable s → (t p : ℕ) (w : World) (all : List Station) (u : Reading) → t ≤ 65_535 → p < n s.plan → w ≡ world s t
    → all ≡ in_turn p (tick_one s (record { 0 = t })) w.stations → u ≡ clock s (record { 0 = t }) p → Room (get_or all p no_station) u
turn_room s z t p w all u soon h now e f =
    let same : get_or w.stations p no_station ≡ get_or (world s t).stations p no_station = ap (λ (v : World). get_or v.stations p no_station) now in
    room_before s (record { 0 = t }) p w.stations all u e f (room_same _ _ _ _ same refl (world_room s z t p soon h))
