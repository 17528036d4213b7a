-- Each call of a host keeps its station. Assumes nothing.
use mathlib.Core.Path.{◌≡◌, refl, sym, ap, ◌∙◌}
use mathlib.Core.Logic.{◌⊎◌, inl, inr}
use mathlib.Core.Bool.{Bool, true, false, cond}
use mathlib.Core.List.{List, [], ◌∷◌, ◌++◌, map, append_assoc, append-nil}
use Prim.Native.Nat.{ℕ, ◌+◌, ◌≤◌, ◌<◌}
use native.Mathlib.Omega.{arith}
use borrow.Author.Tests.{eqb-true}
use lib.Dec.{eqb}
use Rattle.lists.specs.Lists.{any, insert, rising}
use Rattle.lists.specs.Members.{In}
use Rattle.lists.proofs.Places.{take_pad}
use Rattle.lists.proofs.MemberLaws.{in_append, map_append}
use Rattle.clock.specs.declared.Reading.{Reading}
use Rattle.network.specs.Network as net
use Rattle.network.proofs.Ranges.{ranges}
use Rattle.orders.specs.declared.Order.{Order}
use Rattle.host.specs.State.{held_of, same_name, before}
use Rattle.host.specs.Start.{start_of, start_host}
use Rattle.host.specs.Receive.{receive_host}
use Rattle.host.specs.Tick.{due_of, waiting_of}
use Rattle.host.specs.Calls.{Call, refusal, becomes, after}
use Rattle.host.specs.Calls as calls
use Rattle.host.specs.declared.Held.{Held}
use Rattle.host.specs.declared.Host.{Host}
use Rattle.host.proofs.Facts.{SoundIs, start_is, receive_is, tick_is}
use Rattle.host.proofs.Keeps.{new_name, new_start}
use Rattle.host.proofs.Outcomes.{accepted, sound_is_kept, sized_is_kept, last_rises, last_is, same_host, held_is, due_in_lem}
use Rattle.schedule.specs.declared.Schedule.{Schedule}
use Rattle.engine.specs.declared.Delivery.{Delivery}
use Rattle.engine.specs.declared.Log.{Log}
use Rattle.engine.specs.declared.Station.{Station}
use Rattle.engine.specs.Parts.{no_delivery, list_of, log_of, clock, start, order}
use Rattle.engine.specs.Run.{delivered, delivery, ticked}
use Rattle.engine.proofs.Logs.{due_then}
use Rattle.engine.proofs.Kept.{gone, taken, Named, Kept, not_taken, more_rises, more_named}

-- a sound host's Δ is at least 1, since ε is
bound_some : (h : Host) → SoundIs h → 1 ≤ h.bound
unfolding net.bound
bound_some h s =
    let low = (ranges h.plan s.ranges).skew_low in
    let sum = s.formula in
    omega arith

what_delivered : (u : Reading) (l : List Held) → map (λ (d : Delivery). d.what) (map (delivery u) l) ≡ l
what_delivered u [] = refl
what_delivered u (x ∷ l) = ap (λ (t : List Held). x ∷ t) (what_delivered u l)

module _ (s : Schedule) (p : ℕ) (a : Station) (k : Kept s p a) (u : Reading) where
  abbrev h : Host
  h = a.host

  abbrev both : Host → Log → Station
  both g l = record { host = g; log = l }

  abbrev with_host_lem : Host → Station
  with_host_lem g = both g a.log

  -- a call that takes x
  takes : (c : Call) (x : Held) → held_of (after h u c) ≡ insert before x (held_of h) → any (same_name x) (held_of h) ≡ false
      → ((y : Held) → In y (gone a) → y.stamp.0 < x.stamp.0) → Named s x → Kept s p (with_host_lem (after h u c))
  takes c x held new later f =
      let same = same_host h u c in
      record {
        sound = sound_is_kept h u c k.sized k.sound;
        sized = sized_is_kept h u c k.sized;
        own = same.own ∙ k.own;
        plan = same.plan ∙ k.plan;
        rules = same.rules ∙ k.rules;
        set_out = k.set_out;
        rise = ap (λ (l : List Held). rising before (gone a ++ l)) held ∙ more_rises s p a k x later new;
        named = λ y i. more_named s p a k x later new f y (rw held at i);
        passed = λ y i. let old = k.passed y i in let rises = last_rises h u c in let Δ = same.bound in omega arith;
      }

  -- a call that is refused
  kept_refused : (c : Call) → eqb (refusal h u.0 c) 0 ≡ false → Kept s p (with_host_lem (after h u c))
  kept_refused c e = let same : after h u c ≡ h = ap (λ (t : Bool). cond t (becomes h u c) h) e in rw same k

  -- a copy that is not refused is of an order that the host has neither held nor delivered
  hand_new : (l : ℕ) (x : Held) → refusal h u.0 (calls.receive l 0 x) ≡ 0 → any (same_name x) (held_of h) ≡ false
  hand_new l x clear = let is = receive_is h u.0 l 0 x clear in new_name x (held_of h) is.not_known is.not_other

  hand_later : (l : ℕ) (x : Held) → refusal h u.0 (calls.receive l 0 x) ≡ 0 → (y : Held) → In y (gone a) → y.stamp.0 < x.stamp.0
  hand_later l x clear y i =
      let is = receive_is h u.0 l 0 x clear in
      let old = k.passed y i in
      let now = is.later in
      let due = is.before_due in
      omega arith

  pub hand_untaken : (l : ℕ) (x : Held) → refusal h u.0 (calls.receive l 0 x) ≡ 0 → any (same_name x) (taken a) ≡ false
  hand_untaken l x clear = not_taken s p a k x (hand_later l x clear) (hand_new l x clear)

  pub hand_keeps : (l j : ℕ) → j < s.start_count → Kept s p (with_host_lem (receive_host h u l 0 (order s j)))
  hand_keeps l j few = go (eqb (refusal h u.0 c) 0) refl
    where
      x : Held
      x = order s j

      c : Call
      c = calls.receive l 0 x

      go : (t : Bool) → eqb (refusal h u.0 c) 0 ≡ t → Kept s p (with_host_lem (after h u c))
      go false e = kept_refused c e
      go true e =
          let clear : refusal h u.0 c ≡ 0 = eqb-true _ _ e in
          takes c x (held_is h u c clear) (hand_new l x clear) (hand_later l x clear) (j, few, refl)

  -- nor is an order that is started
  tell_new : (o : Order) → refusal h u.0 (calls.start o) ≡ 0 → any (same_name (start_of h u o)) (held_of h) ≡ false
  tell_new o clear = new_start h k.sized u o (start_is h u.0 o clear)

  tell_later : (o : Order) → refusal h u.0 (calls.start o) ≡ 0 → (y : Held) → In y (gone a) → y.stamp.0 < u.0
  tell_later o clear y i =
      let is = start_is h u.0 o clear in
      let Δ = bound_some h is.sound in
      let old = k.passed y i in
      let now = is.later in
      omega arith

  pub tell_untaken : (o : Order) → refusal h u.0 (calls.start o) ≡ 0 → any (same_name (start_of h u o)) (taken a) ≡ false
  tell_untaken o clear = not_taken s p a k (start_of h u o) (tell_later o clear) (tell_new o clear)

  pub tell_keeps : (j : ℕ) → j < s.start_count → u ≡ clock s (start s j).tick (start s j).host → p ≡ (start s j).host
      → Kept s p (with_host_lem (start_host h u (start s j).order))
  tell_keeps j few at here = go (eqb (refusal h u.0 c) 0) refl
    where
      o : Order
      o = (start s j).order

      c : Call
      c = calls.start o

      x : Held
      x = start_of h u o

      go : (t : Bool) → eqb (refusal h u.0 c) 0 ≡ t → Kept s p (with_host_lem (after h u c))
      go false e = kept_refused c e
      go true e =
          let clear : refusal h u.0 c ≡ 0 = eqb-true _ _ e in
          let source : h.own ≡ (start s j).host = k.own ∙ here in
          takes c x (held_is h u c clear) (tell_new o clear) (tell_later o clear) (j, few, cc (at, source))

  -- ---- a tick: what it delivers goes behind what was delivered, and the rest stays

  log_kept : (l : List Delivery) → log_of l ≡ log_of (list_of (log_of l))
  log_kept l = ap log_of (sym (take_pad 16 no_delivery l))

  gone_is : (l : List Held) → gone (record { host = h; log = log_of (list_of a.log ++ map (delivery u) l) }) ≡ gone a ++ l
  gone_is l =
      ap (map (λ (d : Delivery). d.what)) (take_pad 16 no_delivery (list_of a.log ++ map (delivery u) l))
      ∙ map_append (λ (d : Delivery). d.what) (list_of a.log) (map (delivery u) l)
      ∙ ap (λ (t : List Held). gone a ++ t) (what_delivered u l)

  pub tick_taken : taken (ticked u a) ≡ taken a
  tick_taken = go (eqb (refusal h u.0 c) 0) refl
    where
      c : Call
      c = calls.ticks 512

      go : (t : Bool) → eqb (refusal h u.0 c) 0 ≡ t → taken (ticked u a) ≡ taken a
      go false e =
          let host : after h u c ≡ h = ap (λ (t : Bool). cond t (becomes h u c) h) e in
          let none : delivered h u ≡ [] = ap (λ (t : Bool). cond t (due_of h u.0) []) e in
          ap (λ (l : List Held). l ++ held_of (after h u c)) (gone_is (delivered h u) ∙ ap (λ (l : List Held). gone a ++ l) none ∙ append-nil (gone a))
          ∙ ap (λ (g : Host). gone a ++ held_of g) host
      go true e =
          let clear : refusal h u.0 c ≡ 0 = eqb-true _ _ e in
          let some : delivered h u ≡ due_of h u.0 = accepted (refusal h u.0 c) (due_of h u.0) [] clear in
          ap (λ (l : List Held). l ++ held_of (after h u c)) (gone_is (delivered h u) ∙ ap (λ (l : List Held). gone a ++ l) some)
          ∙ ap (λ (l : List Held). (gone a ++ due_of h u.0) ++ l) (held_is h u c clear)
          ∙ append_assoc (gone a) (due_of h u.0) (waiting_of h u.0)
          ∙ ap (λ (l : List Held). gone a ++ l) (due_then h.bound u.0 (held_of h) (tick_is h u.0 512 clear).sound.rise)

  pub tick_keeps : Kept s p (ticked u a)
  tick_keeps = go (eqb (refusal h u.0 c) 0) refl
    where
      c : Call
      c = calls.ticks 512

      go : (t : Bool) → eqb (refusal h u.0 c) 0 ≡ t → Kept s p (ticked u a)
      go false e =
          let host : after h u c ≡ h = ap (λ (t : Bool). cond t (becomes h u c) h) e in
          let none : delivered h u ≡ [] = ap (λ (t : Bool). cond t (due_of h u.0) []) e in
          let log : log_of (list_of a.log ++ map (delivery u) (delivered h u)) ≡ a.log =
          ap (λ (l : List Held). log_of (list_of a.log ++ map (delivery u) l)) none ∙ ap log_of (append-nil (list_of a.log)) ∙ sym k.set_out in
          let same : ticked u a ≡ a =
          ap (λ (g : Host). both g (log_of (list_of a.log ++ map (delivery u) (delivered h u)))) host ∙ ap (both h) log in
          rw same k
      go true e =
          let clear : refusal h u.0 c ≡ 0 = eqb-true _ _ e in
          let is = tick_is h u.0 512 clear in
          let same = same_host h u c in
          let some : delivered h u ≡ due_of h u.0 = accepted (refusal h u.0 c) (due_of h u.0) [] clear in
          let out : gone (ticked u a) ≡ gone a ++ due_of h u.0 = gone_is (delivered h u) ∙ ap (λ (l : List Held). gone a ++ l) some in
          record {
            sound = sound_is_kept h u c k.sized k.sound;
            sized = sized_is_kept h u c k.sized;
            own = same.own ∙ k.own;
            plan = same.plan ∙ k.plan;
            rules = same.rules ∙ k.rules;
            set_out = log_kept (list_of a.log ++ map (delivery u) (delivered h u));
            rise = ap (rising before) tick_taken ∙ k.rise;
            named = λ x i. k.named x (rw tick_taken at i);
            passed = λ x i. late clear x (in_append (gone a) (due_of h u.0) x (rw out at i));
          }
        where
          late : refusal h u.0 c ≡ 0 → (x : Held) → In x (gone a) ⊎ In x (due_of h u.0) → x.stamp.0 + (after h u c).bound ≤ (after h u c).last.0
          late clear x (inl i) = let old = k.passed x i in let rises = last_rises h u c in let Δ = (same_host h u c).bound in omega arith
          late clear x (inr i) =
              let due = (due_in_lem h u.0 x i).1 in
              let now : (after h u c).last.0 ≡ u.0 = ap (λ (r : Reading). r.0) (last_is h u c clear) in
              let Δ = (same_host h u c).bound in
              omega arith
