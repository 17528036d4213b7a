-- What a tick adds to a log: the orders that are due, which stand first in the history. Assumes nothing.
use mathlib.Core.Path.{◌≡◌, refl, sym, ap, ◌∙◌}
use mathlib.Core.Bool.{Bool, true, false, cond, not, false≢true}
use mathlib.Core.Logic.{inl, inr}
use mathlib.Core.List.{List, [], ◌∷◌, ◌++◌, map, append_assoc, append-nil}
use Prim.Native.Nat.{ℕ, zero, suc, ◌+◌, ◌≤◌, ◌<◌}
use native.Mathlib.Numerals.{add-one}
use native.Mathlib.Omega.{arith}
use borrow.Author.Tests.{leb-true, le-leb, eqb-true}
use lib.Dec.{eqb}
use lib.ListN.{length, take, get_or, set, length-append, length-map}
use lib.Seq.{take-suc, length-take-le, take-append_seam, get_or-set_other}
use Rattle.lists.specs.Lists.{all, keep, pad, rising}
use Rattle.lists.proofs.MemberLaws.{map_append}
use Rattle.lists.proofs.Places.{pad_more}
use Rattle.lists.proofs.Order.{rising_tail}
use Rattle.lists.proofs.Rises.{first_before}
use Rattle.lists.proofs.Listed.{all_member, member_none, keep_none}
use Rattle.lists.proofs.Loops.{keep_both}
use Rattle.clock.specs.declared.Reading.{Reading}
use Rattle.clock.specs.declared.Tick.{Tick}
use Rattle.host.specs.State.{no_held, held_of, before}
use Rattle.host.specs.Answers.{SaidTick, number, says_tick, said_by_tick}
use Rattle.host.specs.Tick.{due, due_of, tick_refusal, tick_says, tick_host}
use Rattle.host.specs.declared.Held.{Held}
use Rattle.host.specs.declared.Host.{Host}
use Rattle.host.specs.declared.Refusal.{Refusal}
use Rattle.std.specs.Prelude.{Ok, Err}
use Rattle.host.proofs.Facts.{SoundIs, tick_is}
use Rattle.host.proofs.Keeps.{held_most}
use Rattle.host.proofs.Outcomes.{accepted}
use Rattle.host.proofs.Names.{Goes, before_is, before_trans}
use Rattle.host.proofs.Numbers.{kept}
use Rattle.schedule.specs.declared.Schedule.{Schedule}
use Rattle.engine.specs.declared.Delivery.{Delivery}
use Rattle.engine.specs.declared.Log.{Log}
use Rattle.engine.specs.declared.Station.{Station}
use Rattle.engine.specs.Turns.{in_turn}
use Rattle.engine.specs.Parts.{no_delivery, list_of, log_of, no_station, clock}
use Rattle.engine.specs.Run.{delivered, delivery, ticked, tick_one}
use Rattle.engine.specs.Inside.{Room}

-- ---- the loop that adds the first so many of a history

module _ (u : Reading) (log : Log) (set_out : log ≡ log_of (list_of log)) (h : List Held) where
  abbrev with_first : ℕ → List Delivery
  with_first i = list_of log ++ map (delivery u) (take i h)

  counted : log.count ≡ length (list_of log)
  counted = ap (λ (l : Log). l.count) set_out

  with_long : (i : ℕ) → i ≤ length h → length (with_first i) ≡ log.count + i
  with_long i k =
      length-append (list_of log) (map (delivery u) (take i h))
      ∙ ap (λ (n : ℕ). length (list_of log) + n) (length-map (take i h) (delivery u) ∙ length-take-le i h k)
      ∙ ap (λ (n : ℕ). n + i) (sym counted)

  pub more_start : log.entries ≡ pad 16 no_delivery (with_first 0)
  more_start = ap (λ (l : Log). l.entries) set_out ∙ ap (pad 16 no_delivery) (sym (append-nil (list_of log)))

  pub more_turn : (i : ℕ) (e : List Delivery) → i < length h → log.count + i < 16 → e ≡ pad 16 no_delivery (with_first i)
      → set e (log.count + i) (delivery u (get_or h i no_held)) ≡ pad 16 no_delivery (with_first (i + 1))
  more_turn i e k room inv =
      let x : Delivery = delivery u (get_or h i no_held) in
      let at : length (with_first i) ≡ log.count + i = with_long i (omega arith) in
      let next : take (i + 1) h ≡ take i h ++ (get_or h i no_held ∷ []) = rw (add-one i) (take-suc h i no_held k) in
      ap (λ (t : List Delivery). set t (log.count + i) x) inv
      ∙ ap (λ (n : ℕ). set (pad 16 no_delivery (with_first i)) n x) (sym at)
      ∙ pad_more 16 no_delivery x (with_first i) (omega arith)
      ∙ ap (pad 16 no_delivery) (append_assoc (list_of log) (map (delivery u) (take i h)) (x ∷ [])
      ∙ ap (λ (t : List Delivery). list_of log ++ t) (sym (map_append (delivery u) (take i h) (get_or h i no_held ∷ [])) ∙ ap (map (delivery u)) (sym next)))

  pub more_end : (i n : ℕ) (e : List Delivery) → i ≤ n → n ≤ i → n ≤ length h → e ≡ pad 16 no_delivery (with_first i)
      → record { count = log.count + n; entries = e } ≡ log_of (with_first n)
  more_end i n e a b k inv =
      let same : i ≡ n = omega arith in
      let long : log.count + n ≡ length (with_first n) = sym (with_long n k) in
      let there : e ≡ pad 16 no_delivery (with_first n) = inv ∙ ap (λ (j : ℕ). pad 16 no_delivery (with_first j)) same in
      cc (long, there)

-- ---- what is due stands first in a history that rises

module _ (Δ u : ℕ) where
  due_before : (x y : Held) → before x y ≡ true → due Δ u y ≡ true → due Δ u x ≡ true
  due_before x y b d = le-leb (x.stamp.0 + Δ) u (go (before_is x y b))
    where
      go : Goes x y → x.stamp.0 + Δ ≤ u
      go (inl l) = let later : y.stamp.0 + Δ ≤ u = leb-true (y.stamp.0 + Δ) u d in omega arith
      go (inr e) = let later : y.stamp.0 + Δ ≤ u = leb-true (y.stamp.0 + Δ) u d in let same : x.stamp.0 ≡ y.stamp.0 = e.0 in omega arith

  none_due : (x : Held) (l : List Held) → due Δ u x ≡ false → all (before x) l ≡ true → keep (due Δ u) l ≡ []
  none_due x l n a = keep_none (due Δ u) l (member_none (due Δ u) l (λ y i. go y (all_member (before x) l a y i) (due Δ u y) refl))
    where
      go : (y : Held) → before x y ≡ true → (t : Bool) → due Δ u y ≡ t → t ≡ false
      go y b true e = absurd (false≢true (sym n ∙ due_before x y b e))
      go y b false e = refl

  pub due_then : (l : List Held) → rising before l ≡ true → keep (due Δ u) l ++ keep (λ (e : Held). not (due Δ u e)) l ≡ l
  due_then [] r = refl
  due_then (x ∷ l) r = go (due Δ u x) refl (due_then l (rising_tail before x l r))
    where
      K : List Held
      K = keep (due Δ u) l

      W : List Held
      W = keep (λ (e : Held). not (due Δ u e)) l

      go : (t : Bool) → due Δ u x ≡ t → K ++ W ≡ l → cond t (x ∷ K) K ++ cond (not t) (x ∷ W) W ≡ x ∷ l
      go true e ih = ap (λ (t : List Held). x ∷ t) ih
      go false e ih =
          let none : K ≡ [] = none_due x l e (first_before before before_trans x l r) in
          ap (λ (t : List Held). t ++ (x ∷ W)) none ∙ ap (λ (t : List Held). x ∷ t) (sym (ap (λ (t : List Held). t ++ W) none) ∙ ih)

  pub due_first : (l : List Held) → rising before l ≡ true → take (length (keep (due Δ u) l)) l ≡ keep (due Δ u) l
  due_first l r =
      let W : List Held = keep (λ (e : Held). not (due Δ u e)) l in
      ap (take (length (keep (due Δ u) l))) (sym (due_then l r)) ∙ take-append_seam (keep (due Δ u) l) W

take_take : {A : Type 0} (k n : ℕ) (l : List A) → k ≤ n → take k (take n l) ≡ take k l
take_take zero n l h = refl
take_take (suc k) zero l h = let f : ⊥ = omega arith in absurd f
take_take (suc k) (suc n) [] h = refl
take_take {A} (suc k) (suc n) (x ∷ l) h = ap (λ (t : List A). x ∷ t) (take_take k n l (omega arith))

-- ---- what a tick answers, and the station after it

said_refusal : (r c : ℕ) → (said_by_tick r c).refusal ≡ r
said_refusal r c = go (eqb r 0) refl
  where
    go : (t : Bool) → eqb r 0 ≡ t
        → (cond {A = SaidTick} t (record { refusal = 0; count = c }) (record { refusal = r; count = 0 })).refusal ≡ r
    go true e = sym (eqb-true r 0 e)
    go false e = refl

said_count : (r c : ℕ) → r ≡ 0 → (said_by_tick r c).count ≡ c
said_count r c e = rw e

module _ (p : Station) (u : Reading) (room : Room p u) where
  abbrev refusal : ℕ
  refusal = tick_refusal p.host u.0 512

  -- nothing is delivered where the tick is refused
  pub station_refused : (w : Refusal) (h : Host) → says_tick (Err w) ≡ tick_says p.host u.0 512 → h ≡ tick_host p.host u 512
      → record { host = h; log = p.log } ≡ ticked u p
  station_refused w h e k =
      let number_is : number w ≡ refusal = ap (λ (s : SaidTick). s.refusal) e ∙ said_refusal refusal (length (due_of p.host u.0)) in
      let none : [] ≡ delivered p.host u = kept w refusal (due_of p.host u.0) [] number_is in
      let log : p.log ≡ log_of (list_of p.log ++ map (delivery u) (delivered p.host u)) =
      room.log ∙ ap log_of (sym (append-nil (list_of p.log)) ∙ ap (λ (l : List Held). list_of p.log ++ map (delivery u) l) none) in
      cc (k, log)

  module _ (count : ℕ) (e : says_tick (Ok count) ≡ tick_says p.host u.0 512) where
    clear : refusal ≡ 0
    clear = sym (said_refusal refusal (length (due_of p.host u.0))) ∙ ap (λ (s : SaidTick). s.refusal) (sym e)

    counts : count ≡ length (due_of p.host u.0)
    counts = ap (λ (s : SaidTick). s.count) e ∙ said_count refusal (length (due_of p.host u.0)) clear

    sound_host : SoundIs p.host
    sound_host = (tick_is p.host u.0 512 clear).sound

    few : count ≤ p.host.held
    few =
        let some = keep_both (due p.host.bound u.0) (held_of p.host) in
        let most = held_most p.host in
        omega (arith, counts)

    pub room_left : (p.log ≡ log_of (list_of p.log)) × (p.log.count + count ≤ 16)
    room_left = (room.log, let enough = room.room in omega (arith, counts))

    first : take count p.host.history ≡ delivered p.host u
    first =
        let inside : take count (held_of p.host) ≡ due_of p.host u.0 =
        ap (λ (n : ℕ). take n (held_of p.host)) counts ∙ due_first p.host.bound u.0 (held_of p.host) sound_host.rise in
        let whole : take count (held_of p.host) ≡ take count p.host.history = take_take count p.host.held p.host.history few in
        sym whole ∙ inside ∙ sym (accepted refusal (due_of p.host u.0) [] clear)

    pub station_delivered : (h : Host) (l : Log) → h ≡ tick_host p.host u 512
        → l ≡ log_of (list_of p.log ++ map (delivery u) (take count p.host.history)) → record { host = h; log = l } ≡ ticked u p
    station_delivered h l k m =
        let log : l ≡ log_of (list_of p.log ++ map (delivery u) (delivered p.host u)) = m ∙ ap (λ (t : List Held). log_of (list_of p.log ++ map (delivery u) t)) first in
        cc (k, log)

-- ---- the stations that have not ticked yet

pub room_same : (p q : Station) (u v : Reading) → q ≡ p → v ≡ u → Room p u → Room q v
room_same p q u v e f r = rw (e, f) r

pub untouched : (s : Schedule) (t : Tick) (i p : ℕ) (l : List Station) → i ≤ p → get_or (in_turn i (tick_one s t) l) p no_station ≡ get_or l p no_station
unfolding in_turn
untouched s t zero p l h = refl
untouched s t (suc i) p l h = get_or-set_other (in_turn i (tick_one s t) l) i p _ no_station (λ e. let f : ⊥ = omega (arith, e) in f) ∙ untouched s t i p l (omega arith)

pub room_before : (s : Schedule) (t : Tick) (p : ℕ) (l all : List Station) (u : Reading) → all ≡ in_turn p (tick_one s t) l → u ≡ clock s t p
    → Room (get_or l p no_station) (clock s t p) → Room (get_or all p no_station) u
room_before s t p l all u e f r =
    room_same _ _ _ _ (ap (λ (k : List Station). get_or k p no_station) e ∙ untouched s t p p l (omega arith)) f r
