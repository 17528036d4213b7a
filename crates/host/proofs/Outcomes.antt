-- What a call leaves: the state is sound again, its last reading never falls, and what is held and started is known, as lists and by membership.
-- Assumes nothing.
use mathlib.Core.Path.{◌≡◌, refl, sym, ap, subst, ◌∙◌}
use mathlib.Core.Logic.{◌⊎◌}
use mathlib.Core.Bool.{Bool, true, false, not, cond}
use mathlib.Core.List.{List, []}
use Prim.Native.Nat.{ℕ, ◌+◌, ◌*◌, ◌≤◌, ◌<◌, zero-le}
use native.Mathlib.Nat.{le_refl}
use borrow.Author.Tests.{not-true, leb-true, leb-false, le-leb, lt-leb, eqb-true}
use lib.Dec.{eqb}
use lib.ListN.{length}
use Rattle.lists.specs.Lists.{rising, insert, keep}
use Rattle.lists.specs.Members.{In}
use Rattle.lists.proofs.MemberLaws.{in_keep, keep_in}
use Rattle.lists.proofs.Listed.{in_insert, insert_new, insert_old, member_none, keep_none, keep_again, member_all}
use Rattle.lists.proofs.Order.{keep_rising}
use Rattle.lists.proofs.Rises.{once}
use Rattle.lists.proofs.Places.{take_pad, length_pad}
use Rattle.clock.specs.declared.Reading.{Reading}
use Rattle.orders.specs.declared.Order.{Order}
use Rattle.host.specs.declared.Held.{Held}
use Rattle.host.specs.declared.Host.{Host}
use Rattle.host.specs.State.{no_reading, no_held, starts_of, held_of, same_name, before, sound, Sized, at}
use Rattle.host.specs.Answers.{unless}
use Rattle.host.specs.Start.{with_start, start_of, start_refusal, start_host}
use Rattle.host.specs.Receive.{receive_refusal, receive_host}
use Rattle.host.specs.Tick.{due, due_of, waiting_of, tick_refusal, after_tick, tick_host}
use Rattle.host.specs.Calls.{Call, start, receive, ticks, refusal, becomes, after}
use Rattle.host.proofs.Names.{before_trans, before_other, name_swap}
use Rattle.host.proofs.Facts.{SoundIs, sound_is, is_sound, start_is, receive_is, tick_is, tick_runs}
use Rattle.host.proofs.Keeps.{start_keeps, receive_keeps, tick_keeps, starts_most, insert_few}

-- what holds after an accepted call and of the state before it holds after the call
pub after_call : {A : Type 0} (P : A → Type 0) (k : ℕ) (after now : A) → (k ≡ 0 → P after) → P now → P (unless k after now)
after_call P k after now f p = go (eqb k 0) refl
  where
    go : (t : Bool) → eqb k 0 ≡ t → P (cond t after now)
    go true e = f (eqb-true k 0 e)
    go false e = p

-- an accepted call leaves what its definition says
pub accepted : {A : Type 0} (k : ℕ) (after now : A) → k ≡ 0 → unless k after now ≡ after
accepted k after now e = ap (λ (j : ℕ). unless j after now) e

-- ---- soundness, the lengths of the arrays, and the last reading, which is an accepted call's own and never falls

pub sound_is_kept : (h : Host) (u : Reading) (c : Call) → Sized h → sound h ≡ true → sound (after h u c) ≡ true
sound_is_kept h u c z s = after_call (λ (g : Host). sound g ≡ true) (refusal h u.0 c) (becomes h u c) h (λ e. is_sound (becomes h u c) (go c e)) s
  where
    go : (c : Call) → refusal h u.0 c ≡ 0 → SoundIs (becomes h u c)
    go (start o) e = start_keeps h z u o (start_is h u.0 o e)
    go (receive arrival hop x) e = receive_keeps h u arrival hop x (receive_is h u.0 arrival hop x e)
    go (ticks room) e = tick_keeps h u room (tick_is h u.0 room e)

pub sized_is_kept : (h : Host) (u : Reading) (c : Call) → Sized h → Sized (after h u c)
sized_is_kept h u c z = after_call Sized (refusal h u.0 c) (becomes h u c) h (go c) z
  where
    go : (c : Call) → refusal h u.0 c ≡ 0 → Sized (becomes h u c)
    go (start o) e =
        record {
          starts = length_pad 4 no_reading (with_start (starts_of h) u) (starts_most (starts_of h) u);
          history = length_pad 32 no_held (insert before (start_of h u o) (held_of h)) (insert_few h (start_of h u o) (start_is h u.0 o e).room);
        }
    go (receive arrival hop x) e = record { starts = z.starts; history = length_pad 32 no_held (insert before x (held_of h)) (insert_few h x (receive_is h u.0 arrival hop x e).room) }
    go (ticks room) e = record { starts = z.starts; history = length_pad 32 no_held (waiting_of h u.0) (tick_keeps h u room (tick_is h u.0 room e)).held }

pub last_is : (h : Host) (u : Reading) (c : Call) → refusal h u.0 c ≡ 0 → (after h u c).last ≡ u
last_is h u c e = ap (λ (g : Host). g.last) (accepted (refusal h u.0 c) (becomes h u c) h e) ∙ go c
  where
    go : (c : Call) → (becomes h u c).last ≡ u
    go (start o) = refl
    go (receive arrival hop x) = refl
    go (ticks room) = refl

pub last_rises : (h : Host) (u : Reading) (c : Call) → h.last.0 ≤ (after h u c).last.0
last_rises h u c = after_call (λ (g : Host). h.last.0 ≤ g.last.0) (refusal h u.0 c) (becomes h u c) h (go c) (le_refl h.last.0)
  where
    go : (c : Call) → refusal h u.0 c ≡ 0 → h.last.0 ≤ (becomes h u c).last.0
    go (start o) e = (start_is h u.0 o e).later
    go (receive arrival hop x) e = (receive_is h u.0 arrival hop x e).later
    go (ticks room) e = (tick_is h u.0 room e).later

-- what no call changes
pub record Same (h g : Host) : Type 0 where
  pub plan : g.plan ≡ h.plan
  pub rules : g.rules ≡ h.rules
  pub d : g.d ≡ h.d
  pub bound : g.bound ≡ h.bound
  pub own : g.own ≡ h.own

pub same_host : (h : Host) (u : Reading) (c : Call) → Same h (after h u c)
same_host h u c = after_call (Same h) (refusal h u.0 c) (becomes h u c) h (λ e. go c) (record { plan = refl; rules = refl; d = refl; bound = refl; own = refl })
  where
    go : (c : Call) → Same h (becomes h u c)
    go (start o) = record { plan = refl; rules = refl; d = refl; bound = refl; own = refl }
    go (receive arrival hop x) = record { plan = refl; rules = refl; d = refl; bound = refl; own = refl }
    go (ticks room) = record { plan = refl; rules = refl; d = refl; bound = refl; own = refl }

-- ---- what is held after an accepted call, as a list

abbrev pub held_after : Host → ℕ → Call → List Held
held_after h u (start o) = insert before (record { stamp = record { 0 = u }; source = h.own; order = o }) (held_of h)
held_after h u (receive arrival hop x) = insert before x (held_of h)
held_after h u (ticks room) = waiting_of h u

pub held_is : (h : Host) (u : Reading) (c : Call) → refusal h u.0 c ≡ 0 → held_of (after h u c) ≡ held_after h u.0 c
held_is h u c e = ap held_of (accepted (refusal h u.0 c) (becomes h u c) h e) ∙ go c
  where
    go : (c : Call) → held_of (becomes h u c) ≡ held_after h u.0 c
    go (start o) = take_pad 32 no_held (insert before (start_of h u o) (held_of h))
    go (receive arrival hop x) = take_pad 32 no_held (insert before x (held_of h))
    go (ticks room) = take_pad 32 no_held (waiting_of h u.0)

-- ---- and by membership

-- one order more: who is held is the new one or was held, and each of those is held
pub record OneMore (x : Held) (old new : List Held) : Type 0 where
  pub only : (y : Held) → In y new → (y ≡ x) ⊎ In y old
  pub has_new : In x new
  pub has_old : (y : Held) → In y old → In y new

one_more : (x : Held) (old new : List Held) → new ≡ insert before x old → OneMore x old new
one_more x old new e =
    record {
      only = λ y i. in_insert before x old y (subst (In y) e i);
      has_new = subst (In x) (sym e) (insert_new before x old);
      has_old = λ y i. subst (In y) (sym e) (insert_old before x old y i);
    }

pub start_more : (h : Host) (u : Reading) (o : Order) → start_refusal h u.0 o ≡ 0 → OneMore (start_of h u o) (held_of h) (held_of (start_host h u o))
start_more h u o e = one_more (start_of h u o) (held_of h) (held_of (start_host h u o)) (held_is h u (start o) e)

pub receive_more : (h : Host) (u : Reading) (arrival hop : ℕ) (x : Held) → receive_refusal h u.0 arrival hop x ≡ 0 → OneMore x (held_of h) (held_of (receive_host h u arrival hop x))
receive_more h u arrival hop x e = one_more x (held_of h) (held_of (receive_host h u arrival hop x)) (held_is h u (receive arrival hop x) e)

-- what is due, and what waits
pub due_in_lem : (h : Host) (u : ℕ) (y : Held) → In y (due_of h u) → In y (held_of h) × (y.stamp.0 + h.bound ≤ u)
due_in_lem h u y i = let r = in_keep (due h.bound u) (held_of h) y i in (r.0, leb-true _ _ r.1)

pub in_due : (h : Host) (u : ℕ) (y : Held) → In y (held_of h) → y.stamp.0 + h.bound ≤ u → In y (due_of h u)
in_due h u y i l = keep_in (due h.bound u) (held_of h) y i (le-leb _ _ l)

pub waiting_in_lem : (h : Host) (u : ℕ) (y : Held) → In y (waiting_of h u) → In y (held_of h) × (u < y.stamp.0 + h.bound)
waiting_in_lem h u y i = let r = in_keep (λ e. not (due h.bound u e)) (held_of h) y i in (r.0, leb-false _ _ (not-true _ r.1))

pub in_waiting : (h : Host) (u : ℕ) (y : Held) → In y (held_of h) → u < y.stamp.0 + h.bound → In y (waiting_of h u)
in_waiting h u y i l = keep_in (λ e. not (due h.bound u e)) (held_of h) y i (ap not (lt-leb _ _ l))

-- ---- the history's order

pub held_rises : (h : Host) → sound h ≡ true → rising before (held_of h) ≡ true
held_rises h s = (sound_is h s).rise

-- what a tick delivers rises strictly by stamp and source
pub due_rises : (h : Host) (u : ℕ) → sound h ≡ true → rising before (due_of h u) ≡ true
due_rises h u s = keep_rising before before_trans (due h.bound u) (held_of h) (held_rises h s)

-- a name is held once
pub held_once : (h : Host) → sound h ≡ true → (x y : Held) → In x (held_of h) → In y (held_of h) → same_name x y ≡ true → x ≡ y
held_once h s x y i j e = once before before_trans (held_of h) (held_rises h s) x y i j (before_other x y e) (before_other y x (name_swap x y e))

-- ---- starts

abbrev pub starts_after : Host → Reading → Call → List Reading
starts_after h u (start o) = with_start (starts_of h) u
starts_after h u (receive arrival hop x) = starts_of h
starts_after h u (ticks room) = starts_of h

pub starts_are : (h : Host) (u : Reading) (c : Call) → refusal h u.0 c ≡ 0 → starts_of (after h u c) ≡ starts_after h u c
starts_are h u c e = ap starts_of (accepted (refusal h u.0 c) (becomes h u c) h e) ∙ go c
  where
    go : (c : Call) → starts_of (becomes h u c) ≡ starts_after h u c
    go (start o) = take_pad 4 no_reading (with_start (starts_of h) u)
    go (receive arrival hop x) = refl
    go (ticks room) = refl

-- ---- ticking again at the same reading delivers nothing and leaves the state

pub tick_again : (h : Host) (u : Reading) (room again : ℕ) → tick_refusal h u.0 room ≡ 0
    → (tick_refusal (tick_host h u room) u.0 again ≡ 0) × (due_of (tick_host h u room) u.0 ≡ []) × (tick_host (tick_host h u room) u again ≡ tick_host h u room)
tick_again h u room again e =
    let g : Host = after_tick h u in
    let k = tick_is h u.0 room e in
    let p : Held → Bool = due h.bound u.0 in
    let same : held_of g ≡ waiting_of h u.0 = take_pad 32 no_held (waiting_of h u.0) in
    let none : due_of g u.0 ≡ [] =
    ap (keep p) same ∙ keep_none p (waiting_of h u.0) (member_none p (waiting_of h u.0) (λ y i. lt-leb _ _ (waiting_in_lem h u.0 y i).1)) in
    let runs : tick_refusal g u.0 again ≡ 0 =
    tick_runs g u.0 again (record {
      sound = tick_keeps h u room k;
      reading = k.reading;
      later = le_refl u.0;
      fits = subst (λ (l : List Held). 16 * length l ≤ again) (sym none) zero-le;
    }) in
    let stays : waiting_of g u.0 ≡ waiting_of h u.0 =
    ap (keep (λ x. not (p x))) same
    ∙ keep_again (λ x. not (p x)) (waiting_of h u.0) (member_all (λ x. not (p x)) (waiting_of h u.0) (λ y i. ap not (lt-leb _ _ (waiting_in_lem h u.0 y i).1))) in
    subst (λ (x : Host). (tick_refusal x u.0 again ≡ 0) × (due_of x u.0 ≡ []) × (tick_host x u again ≡ x)) (sym (accepted (tick_refusal h u.0 room) g h e))
    (runs, none, accepted (tick_refusal g u.0 again) (after_tick g u) g runs ∙ ap (λ (l : List Held). at h u h.started h.starts l) stays)
