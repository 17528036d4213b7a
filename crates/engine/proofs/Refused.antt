-- In a run a start is refused 12 or 13 or not at all (decision R12): its host is sound and has room, its clock shows a reading that is in range and not passed, and the order's
-- share is in range. Assumes nothing.
use mathlib.Core.Path.{◌≡◌, refl, sym, subst}
use mathlib.Core.Bool.{Bool, true, false, not, cond, ◌&&◌}
use mathlib.Core.List.{List}
use mathlib.Core.Logic.{◌⊎◌, inl, inr}
use Prim.Native.Nat.{ℕ, suc, ◌+◌, ◌*◌, ◌≤◌, ◌<◌}
use native.Mathlib.Omega.{arith}
use borrow.Author.Tests.{eqb-true, le-leb, lt-leb, le-ltb}
use lib.Dec.{leb, ltb, eqb}
use lib.ListN.{get_or}
use Rattle.clock.specs.Clock.{largest_stamp}
use Rattle.clock.specs.declared.Tick.{Tick}
use Rattle.orders.specs.declared.Order.{Order}
use Rattle.orders.specs.Orders.{share_fits}
use Rattle.network.specs.Network.{n, window}
use Rattle.host.specs.declared.Host.{Host}
use Rattle.host.specs.State.{no_reading, last_start, sound}
use Rattle.host.specs.Start.{start_tests, start_refusal}
use Rattle.host.proofs.Numbers.{said_refusal}
use Rattle.schedule.specs.declared.Schedule.{Schedule}
use Rattle.schedule.specs.Schedule.{schedule_of}
use Rattle.schedule.specs.Calls.{read_refusal}
use Rattle.schedule.proofs.Laws.{Within, within_of}
use Rattle.engine.specs.declared.World.{World}
use Rattle.engine.specs.Parts.{clock, start, receiver}
use Rattle.engine.specs.Run.{station, tick_all, hand, arrives, arrive_one, told, tell, start_one, arrived, play, opening, world, outcome}
use Rattle.engine.specs.Calls.{no_outcome, outcome_of}
use Rattle.engine.specs.Inside.{Playable}
use Rattle.engine.proofs.Turns.{keeps}
use Rattle.engine.proofs.Kept.{held_kept}
use Rattle.engine.proofs.Worlds.{Good, tick_good, arrive_good, start_good, play_good, open_good}
use Rattle.engine.proofs.Lasts.{set_each, Behind, tick_behind, arrive_behind, start_behind, play_behind, open_behind}
use Rattle.engine.proofs.Runs.{playable, get_or_blank}

-- not refused, or by one of the two rules that space a host's starts
abbrev pub Spaced : ℕ → Type 0
Spaced r = (r ≡ 0) ⊎ ((r ≡ 12) ⊎ (r ≡ 13))

spaced : (h : Host) (u : ℕ) (o : Order) → sound h ≡ true → share_fits o ≡ true → u ≤ largest_stamp → h.last.0 ≤ u → h.held < 32 → Spaced (start_refusal h u o)
unfolding start_tests
spaced h u o s f r l room = subst Spaced (sym is) (go again many)
  where
    again : Bool
    again = ltb 0 h.started && eqb u (last_start h)

    many : Bool
    many = leb 4 h.started && not (leb ((get_or h.starts 0 no_reading).0 + window h.rules h.plan h.d) u)

    is : start_refusal h u o ≡ cond again 12 (cond many 13 0)
    is = rw (s, f, le-leb u largest_stamp r, le-ltb u h.last.0 l, lt-leb 32 h.held room) refl

    go : (a b : Bool) → Spaced (cond a 12 (cond b 13 0))
    go true b = inr (inl refl)
    go false true = inr (inr refl)
    go false false = inl refl

module _ (s : Schedule) (w : Within s) where
  z : Playable s
  z = playable s w

  -- what holds at every moment of tick t
  abbrev Holds : Tick → World → Type 0
  Holds t v = Good s v.stations × Behind s t v.stations × ((k : ℕ) → Spaced (get_or v.refusals k 0))

  tick_holds : (t : Tick) (v : World) → Holds t v → Holds t (tick_all s t v)
  tick_holds t v q = (tick_good s z t v.stations q.0, tick_behind s t v.stations q.1, q.2)

  arrive_holds : (t : Tick) (c : ℕ) (v : World) → c < 24 * s.start_count → Holds t v → Holds t (arrive_one s t c v)
  arrive_holds t c v few q = (arrive_good s z t c v few q.0, arrive_behind s t c v q.1, go (arrives t c v))
    where
      go : (b : Bool) (k : ℕ) → Spaced (get_or (cond b (hand s t c (receiver s.plan c) v) v).refusals k 0)
      go true = q.2
      go false = q.2

  start_holds : (t : Tick) (k : ℕ) (v : World) → k < s.start_count → Holds t v → Holds t (start_one s t k v)
  start_holds t k v few q = (start_good s z t k v few q.0, start_behind s t k v q.1, go (eqb (start s k).tick.0 t.0) refl)
    where
      p : ℕ
      p = (start s k).host

      h : Host
      h = (station v p).host

      now : eqb (start s k).tick.0 t.0 ≡ true → Spaced (told s t p (start s k).order v).refusal
      now e =
          let same : (start s k).tick.0 ≡ t.0 = eqb-true _ _ e in
          let by_end = z.ticks k in
          let low : p < n s.plan = w.start_host_lem k few in
          let ahead = z.offsets p low in
          let kept = q.0.hosts p low in
          let held = held_kept s p (station v p) kept z.few in
          subst Spaced (sym (said_refusal (start_refusal h (clock s t p).0 (start s k).order) _ _))
          (spaced h (clock s t p).0 (start s k).order kept.sound (w.start_share k few) (omega arith) (q.1 p) (omega arith))

      go : (b : Bool) → eqb (start s k).tick.0 t.0 ≡ b → (i : ℕ) → Spaced (get_or (cond b (tell s t k p (start s k).order v) v).refusals i 0)
      go true e = set_each (λ (i r : ℕ). Spaced r) v.refusals k (told s t p (start s k).order v).refusal 0 q.2 (now e)
      go false e = q.2

  play_holds : (t : ℕ) (v : World) → Holds (record { 0 = t }) v → Holds (record { 0 = suc t }) (play s t v)
  unfolding play
  play_holds t v q =
      let i : Tick = record { 0 = t } in
      let arrives = keeps (arrive_one s i) (λ c v. Holds i v) (24 * s.start_count) (tick_all s i v) (tick_holds i v q) (λ c v h q. arrive_holds i c v h q) in
      let starts = keeps (start_one s i) (λ k v. Holds i v) s.start_count (arrived s i (24 * s.start_count) v) arrives (λ k v h q. start_holds i k v h q) in
      (play_good s z t v q.0, play_behind s t v q.1, starts.2)

  open_holds : Holds (record { 0 = 0 }) (opening s)
  unfolding opening
  open_holds = (open_good s z, open_behind s, λ k. inl (get_or_blank 16 k 0))

  world_holds : (t : ℕ) → Holds (record { 0 = t }) (world s t)
  world_holds t = keeps (play s) (λ i v. Holds (record { 0 = i }) v) t (opening s) open_holds (λ i v h q. play_holds i v q)

  pub run_spaced : (k : ℕ) → Spaced (get_or (outcome s).refusals k 0)
  unfolding outcome
  run_spaced = (world_holds (s.end.0 + 1)).2

-- whatever the bytes of the schedule
pub only_spaced : (bs : List ℕ) (k : ℕ) → Spaced (get_or (outcome_of bs).refusals k 0)
only_spaced bs k = go (eqb (read_refusal bs) 0) refl
  where
    go : (b : Bool) → eqb (read_refusal bs) 0 ≡ b → Spaced (get_or (cond b (outcome (schedule_of bs)) no_outcome).refusals k 0)
    go true e = run_spaced (schedule_of bs) (within_of bs (eqb-true (read_refusal bs) 0 e)) k
    go false e = inl (get_or_blank 16 k 0)
