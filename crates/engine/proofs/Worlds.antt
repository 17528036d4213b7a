-- Every station is kept at every moment of a run; so no log has more than its places. Assumes nothing.
use mathlib.Core.Path.{◌≡◌, refl, sym, ap, ◌∙◌}
use mathlib.Core.Bool.{Bool, true, false, cond}
use mathlib.Core.List.{List, [], ◌∷◌}
use Prim.Native.Nat.{ℕ, zero, suc, ◌*◌, ◌%◌, ◌≤◌, ◌<◌}
use native.Mathlib.Omega.{arith}
use borrow.Author.Tests.{eqb-true, eqb-false, ltb-true, ltb-false}
use lib.Dec.{ltb, eqb}
use lib.ListN.{length, get_or, set, length-set}
use lib.Seq.{get_or-set_same, get_or-set_other}
use Rattle.lists.specs.Lists.{listed}
use Rattle.lists.proofs.Listing.{length_listed, get_or_listed}
use Rattle.clock.specs.declared.Tick.{Tick}
use Rattle.network.specs.Network.{n, link}
use Rattle.host.specs.Make.{fresh}
use Rattle.host.specs.Start.{start_host}
use Rattle.host.specs.Receive.{receive_host}
use Rattle.host.proofs.Facts.{is_sound}
use Rattle.host.proofs.Fresh.{fresh_sound, fresh_sized}
use Rattle.schedule.specs.declared.Schedule.{Schedule}
use Rattle.engine.specs.declared.Station.{Station}
use Rattle.engine.specs.declared.World.{World}
use Rattle.engine.specs.Turns.{in_turn}
use Rattle.engine.specs.Parts.{log_of, no_station, clock, start, order, start_of, link_of, receiver}
use Rattle.engine.specs.Run.{ticked, tick_one, tick_all, station, hand, arrives, arrive_one, tell, start_one, arrived, play, opening, world}
use Rattle.engine.specs.Inside.{Playable}
use Rattle.engine.proofs.Turns.{keeps}
use Rattle.engine.proofs.Kept.{Kept, count_kept}
use Rattle.engine.proofs.Steps.{hand_keeps, tell_keeps, tick_keeps}

pub get_d_past : {A : Type 0} (l : List A) (i : ℕ) (d : A) → length l ≤ i → get_or l i d ≡ d
get_d_past [] i d h = refl
get_d_past (x ∷ l) zero d h = let f : ⊥ = omega arith in absurd f
get_d_past (x ∷ l) (suc i) d h = get_d_past l i d (omega arith)

-- the eight stations: those of the plan's hosts are kept, and no log has more than its places
pub record Good (s : Schedule) (l : List Station) : Type 0 where
  pub long : length l ≡ 8
  pub hosts : (p : ℕ) → p < n s.plan → Kept s p (get_or l p no_station)
  pub others : (p : ℕ) → n s.plan ≤ p → (get_or l p no_station).log.count ≤ 16

module _ (s : Schedule) (z : Playable s) where
  -- one station set anew
  put : (l : List Station) → Good s l → (q : ℕ) (a : Station) → q < 8 → (q < n s.plan → Kept s q a) → (n s.plan ≤ q → a.log.count ≤ 16) → Good s (set l q a)
  put l g q a low new other =
      record {
        long = length-set l q a ∙ g.long;
        hosts = λ p h. here p h (eqb p q) refl;
        others = λ p h. there p h (eqb p q) refl;
      }
    where
      here : (p : ℕ) → p < n s.plan → (t : Bool) → eqb p q ≡ t → Kept s p (get_or (set l q a) p no_station)
      here p h true e =
          let same : p ≡ q = eqb-true p q e in
          let at : get_or (set l q a) p no_station ≡ a = ap (λ (i : ℕ). get_or (set l q a) i no_station) same ∙ get_or-set_same l q a no_station (omega (arith, g.long)) in
          rw (at, same) (new (omega arith))
      here p h false e = rw (get_or-set_other l q p a no_station (eqb-false p q e)) (g.hosts p h)

      there : (p : ℕ) → n s.plan ≤ p → (t : Bool) → eqb p q ≡ t → (get_or (set l q a) p no_station).log.count ≤ 16
      there p h true e =
          let same : p ≡ q = eqb-true p q e in
          let at : get_or (set l q a) p no_station ≡ a = ap (λ (i : ℕ). get_or (set l q a) i no_station) same ∙ get_or-set_same l q a no_station (omega (arith, g.long)) in
          rw at (other (omega arith))
      there p h false e = rw (get_or-set_other l q p a no_station (eqb-false p q e)) (g.others p h)

  pub tick_one_good : (t : Tick) (i : ℕ) (l : List Station) → i < n s.plan → Good s l → Good s (tick_one s t i l)
  tick_one_good t i l h g =
      put l g i (ticked (clock s t i) (get_or l i no_station)) (let most = z.n_most in omega arith)
      (λ low. tick_keeps s i (get_or l i no_station) (g.hosts i low) (clock s t i)) (λ high. let f : ⊥ = omega arith in absurd f)

  pub tick_good : (t : Tick) (l : List Station) → Good s l → Good s (in_turn (n s.plan) (tick_one s t) l)
  tick_good t l g = keeps (tick_one s t) (λ i k. Good s k) (n s.plan) l g (λ i k h q. tick_one_good t i k h q)

  pub arrive_good : (t : Tick) (c : ℕ) (w : World) → c < 24 * s.start_count → Good s w.stations → Good s (arrive_one s t c w).stations
  arrive_good t c w few g = go (arrives t c w)
    where
      q : ℕ
      q = receiver s.plan c

      low : (t : Bool) → cond t (link s.plan (link_of c)).b (link s.plan (link_of c)).a < 8
      low true = (z.ends (link_of c)).1
      low false = (z.ends (link_of c)).0

      go : (b : Bool) → Good s (cond b (hand s t c q w) w).stations
      go false = g
      go true =
          put w.stations g q (record { host = receive_host (station w q).host (clock s t q) (link_of c) 0 (order s (start_of c)); log = (station w q).log }) (low (eqb (c % 2) 0))
          (λ h. hand_keeps s q (station w q) (g.hosts q h) (clock s t q) (link_of c) (start_of c) (omega arith)) (g.others q)

  pub start_good : (t : Tick) (k : ℕ) (w : World) → k < s.start_count → Good s w.stations → Good s (start_one s t k w).stations
  start_good t k w few g = go (eqb (start s k).tick.0 t.0) refl
    where
      p : ℕ
      p = (start s k).host

      go : (b : Bool) → eqb (start s k).tick.0 t.0 ≡ b → Good s (cond b (tell s t k p (start s k).order w) w).stations
      go false e = g
      go true e =
          let same : (start s k).tick.0 ≡ t.0 = eqb-true _ _ e in
          let at : clock s t p ≡ clock s (start s k).tick p = cc (sym same) in
          put w.stations g p (record { host = start_host (station w p).host (clock s t p) (start s k).order; log = (station w p).log }) (z.hosts k)
          (λ h. tell_keeps s p (station w p) (g.hosts p h) (clock s t p) k few at refl) (g.others p)

  pub arrived_good : (t : Tick) (c : ℕ) (w : World) → c ≤ 24 * s.start_count → Good s w.stations → Good s (arrived s t c w).stations
  arrived_good t c w few g = keeps (arrive_one s t) (λ i v. Good s v.stations) c (tick_all s t w) (tick_good t w.stations g) (λ i v h q. arrive_good t i v (omega arith) q)

  pub play_good : (t : ℕ) (w : World) → Good s w.stations → Good s (play s t w).stations
  unfolding play
  play_good t w g =
      let i : Tick = record { 0 = t } in
      keeps (start_one s i) (λ k v. Good s v.stations) s.start_count (arrived s i (24 * s.start_count) w)
      (arrived_good i (24 * s.start_count) w (omega arith) g) (λ k v h q. start_good i k v h q)

  pub open_good : Good s (opening s).stations
  unfolding opening
  open_good =
      record {
        long = length_listed 8 f;
        hosts = λ p h. rw (get_or_listed 8 f p no_station (let most = z.n_most in omega arith)) (first p h);
        others = λ p h. other p (ltb p 8) refl;
      }
    where
      f : ℕ → Station
      f p = record { host = fresh s.plan 1 p; log = log_of [] }

      first : (p : ℕ) → p < n s.plan → Kept s p (f p)
      first p h =
          record {
            sound = is_sound (fresh s.plan 1 p) (fresh_sound s.plan 1 p (record { planned = z.planned; is_rules_lem = refl; own_below = h }));
            sized = fresh_sized s.plan 1 p;
            own = refl;
            plan = refl;
            rules = refl;
            set_out = refl;
            rise = refl;
            named = λ x i. absurd i;
            passed = λ x i. absurd i;
          }

      other : (p : ℕ) → (t : Bool) → ltb p 8 ≡ t → (get_or (listed 8 f) p no_station).log.count ≤ 16
      other p true e = rw (get_or_listed 8 f p no_station (ltb-true p 8 e)) (omega arith)
      other p false e =
          let past : 8 ≤ p = ltb-false p 8 e in
          rw (get_d_past (listed 8 f) p no_station (omega (arith, length_listed 8 f))) (omega arith)

  pub world_good : (t : ℕ) → Good s (world s t).stations
  world_good t = keeps (play s) (λ i v. Good s v.stations) t (opening s) open_good (λ i v h q. play_good i v q)

  pub world_places : (t p : ℕ) → (get_or (world s t).stations p no_station).log.count ≤ 16
  world_places t p = go (ltb p (n s.plan)) refl
    where
      go : (b : Bool) → ltb p (n s.plan) ≡ b → (get_or (world s t).stations p no_station).log.count ≤ 16
      go true e = count_kept s p (get_or (world s t).stations p no_station) ((world_good t).hosts p (ltb-true _ _ e)) z.few
      go false e = (world_good t).others p (ltb-false _ _ e)
