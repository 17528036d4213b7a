-- What the run of a schedule keeps as delivered is what the hosts of its story deliver. Assumes nothing.
use mathlib.Core.Path.{◌≡◌, refl, sym, ap, ◌∙◌}
use mathlib.Core.Bool.{Bool, true, false, cond}
use mathlib.Core.List.{List, [], ◌∷◌, ◌++◌, map}
use Prim.Native.Nat.{ℕ, zero, suc, ◌*◌, ◌≤◌, ◌<◌}
use native.Mathlib.Omega.{arith}
use borrow.Author.Tests.{eqb-true, eqb-false, le-leb}
use lib.Dec.{eqb}
use lib.ListN.{get_or, set}
use lib.Seq.{get_or-set_other}
use Rattle.lists.proofs.MemberLaws.{map_append}
use Rattle.lists.proofs.Places.{take_pad}
use Rattle.lists.proofs.Listing.{get_or_listed}
use Rattle.clock.specs.declared.Tick.{Tick}
use Rattle.network.specs.Network.{n}
use Rattle.host.specs.declared.Held.{Held}
use Rattle.host.specs.declared.Host.{Host}
use Rattle.schedule.specs.declared.Schedule.{Schedule}
use Rattle.schedule.proofs.Laws.{Within}
use Rattle.diffusion.specs.Hosts as hosts
use Rattle.diffusion.specs.Hosts.{Carried}
use Rattle.diffusion.specs.Run.{Story, reading, before, room_at, delivers, log}
use Rattle.diffusion.specs.Ours.{ours, carried}
use Rattle.engine.specs.declared.Log.{Log}
use Rattle.engine.specs.declared.Station.{Station}
use Rattle.engine.specs.declared.World.{World}
use Rattle.engine.specs.Turns.{in_turn}
use Rattle.engine.specs.Parts.{no_delivery, list_of, log_of, no_station, clock, start, receiver}
use Rattle.engine.specs.Run.{delivered, delivery, tick_all, station, become, hand, arrives, arrive_one, tell, start_one, arrived, play, opening, world}
use Rattle.engine.proofs.Turns.{keeps}
use Rattle.engine.proofs.Runs.{playable}
use Rattle.engine.proofs.Sends.{world_both}
use Rattle.played.specs.Reported.{line_of}
use Rattle.played.specs.Story.{story}
use Rattle.played.proofs.Hosts.{tick_at_lem, same_host}

-- no copy and no start changes a log
become_log : (w : World) (q p : ℕ) (g : Host) → (get_or (become w q g) p no_station).log ≡ (station w p).log
become_log w q p g = go (eqb p q) refl
  where
    go : (b : Bool) → eqb p q ≡ b → (get_or (become w q g) p no_station).log ≡ (station w p).log
    go false e = ap (λ (a : Station). a.log) (get_or-set_other w.stations q p _ no_station (eqb-false p q e))
    go true e = ap (λ (i : ℕ). (get_or (become w q g) i no_station).log) same ∙ here w.stations q g ∙ ap (λ (i : ℕ). (station w i).log) (sym same)
      where
        same : p ≡ q
        same = eqb-true p q e

        -- past the last station there is nothing to set
        here : (l : List Station) (i : ℕ) (h : Host) → (get_or (set l i (record { host = h; log = (get_or l i no_station).log })) i no_station).log ≡ (get_or l i no_station).log
        here [] i h = refl
        here (x ∷ l) zero h = refl
        here (x ∷ l) (suc i) h = here l i h

module _ (s : Schedule) (v : Within s) where
  abbrev H : hosts.Host
  H = ours s.plan

  abbrev R : Story
  R = story s

  arrive_log : (t : Tick) (c p : ℕ) (w : World) → (station (arrive_one s t c w) p).log ≡ (station w p).log
  arrive_log t c p w = go (arrives t c w)
    where
      go : (b : Bool) → (station (cond b (hand s t c (receiver s.plan c) w) w) p).log ≡ (station w p).log
      go true = become_log w (receiver s.plan c) p _
      go false = refl

  start_log : (t : Tick) (k p : ℕ) (w : World) → (station (start_one s t k w) p).log ≡ (station w p).log
  start_log t k p w = go (eqb (start s k).tick.0 t.0)
    where
      go : (b : Bool) → (station (cond b (tell s t k (start s k).host (start s k).order w) w) p).log ≡ (station w p).log
      go true = become_log w (start s k).host p _
      go false = refl

  play_log : (t p : ℕ) (w : World) → (station (play s t w) p).log ≡ (station (tick_all s (record { 0 = t }) w) p).log
  unfolding play
  play_log t p w =
      let T : Tick = record { 0 = t } in
      let copies : (station (arrived s T (24 * s.start_count) w) p).log ≡ (station (tick_all s T w) p).log =
      keeps (arrive_one s T) (λ i x. (station x p).log ≡ (station (tick_all s T w) p).log) (24 * s.start_count) (tick_all s T w) refl (λ i x h e. arrive_log T i p x ∙ e) in
      keeps (start_one s T) (λ i x. (station x p).log ≡ (station (tick_all s T w) p).log) s.start_count (arrived s T (24 * s.start_count) w) copies (λ i x h e. start_log T i p x ∙ e)

  entries : (U : ℕ) (l : List Held) → map line_of (map (delivery (record { 0 = U })) l) ≡ map (λ x. (U, x)) (map carried l)
  entries U [] = refl
  entries U (x ∷ l) = ap (λ (t : List (ℕ × Carried)). (U, carried x) ∷ t) (entries U l)

  -- what a tick adds
  tick_lines : (t p : ℕ) → t ≤ s.end.0 → p < n s.plan
      → map line_of (list_of (station (world s (suc t)) p).log) ≡ map line_of (list_of (station (world s t) p).log) ++ map (λ x. (reading R p t, x)) (delivers H R p t)
  unfolding in_turn
  tick_lines t p h low =
      let T : Tick = record { 0 = t } in
      let w = world s t in
      let u = clock s T p in
      let a = station w p in
      let now : (station (world s (suc t)) p).log ≡ log_of (list_of a.log ++ map (delivery u) (delivered a.host u)) =
      play_log t p w ∙ ap (λ (b : Station). b.log) (tick_at_lem s T (n s.plan) p w.stations low (let most = (playable s v).n_most in omega (arith, (world_both s v t).0.long))) in
      let room : room_at R p t ≡ 512 = ap (λ (b : Bool). cond b 512 512) (le-leb t s.end.0 h) in
      let same : delivers H R p t ≡ map carried (delivered a.host u) =
      ap (λ (r : ℕ). H.delivered (reading R p t) r (before H R p t)) room ∙ ap (H.delivered (reading R p t) 512) (same_host s v t p (omega arith) low) in
      ap (λ (l : Log). map line_of (list_of l)) now
      ∙ ap (map line_of) (take_pad 16 no_delivery (list_of a.log ++ map (delivery u) (delivered a.host u)))
      ∙ map_append line_of (list_of a.log) (map (delivery u) (delivered a.host u))
      ∙ ap (λ (l : List (ℕ × Carried)). map line_of (list_of a.log) ++ l) (entries (reading R p t) (delivered a.host u) ∙ ap (map (λ x. (reading R p t, x))) (sym same))

  pub log_lines : (t p : ℕ) → t ≤ s.end.0 → p < n s.plan → map line_of (list_of (station (world s (suc t)) p).log) ≡ log H R p t
  unfolding log in_turn opening
  log_lines zero p h low =
      tick_lines 0 p h low
      ∙ ap (λ (a : Station). map line_of (list_of a.log) ++ map (λ x. (reading R p 0, x)) (delivers H R p 0)) (get_or_listed 8 _ p no_station (let most = (playable s v).n_most in omega arith))
  log_lines (suc t) p h low = tick_lines (suc t) p h low ∙ ap (λ (l : List (ℕ × Carried)). l ++ map (λ x. (reading R p (suc t), x)) (delivers H R p (suc t))) (log_lines t p (omega arith) low)
