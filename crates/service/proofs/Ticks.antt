-- What a tick leaves and answers, from what is known of its parts: it delivers nothing, and alters at most the last reading; or it is not refused, and
-- takes what is due out of the history. Assumes nothing.
use mathlib.Core.Path.{◌≡◌, refl, sym, ap, ap₂, ◌∙◌}
use mathlib.Core.Bool.{Bool, true, false, cond}
use mathlib.Core.List.{List, map}
use Prim.Native.Nat.{ℕ, ◌-◌, ◌*◌, ◌≤◌, zero-le}
use native.Mathlib.Omega.{arith}
use borrow.Author.Tests.{eqb-true}
use lib.Dec.{eqb}
use lib.ListN.{length, length-map, length-drop, take, drop}
use lib.Seq.{length-take-le, take-take}
use Rattle.lists.specs.Lists.{keep, pad}
use Rattle.clock.specs.declared.Reading.{Reading}
use Rattle.host.specs.declared.Held.{Held}
use Rattle.host.specs.declared.Host.{Host}
use Rattle.host.specs.Answers.{SaidTick, said_by_tick, unless}
use Rattle.host.specs.State.{Sized}
use Rattle.host.specs.Tick.{due_of, written, tick_refusal, tick_says, tick_list, after_tick}
use Rattle.host.specs.Calls.{ticks}
use Rattle.host.proofs.Facts.{tick_is}
use Rattle.host.proofs.Fronts.{idle, none_written}
use Rattle.host.proofs.Numbers.{tick_refusal_lem}
use Rattle.host.proofs.Outcomes.{accepted}
use Rattle.service.specs.declared.HeldMemory.{HeldMemory}
use Rattle.service.specs.declared.HostMemory.{HostMemory}
use Rattle.service.specs.Memory.{held_from, host_from, host_memory}
use Rattle.service.specs.Calls.{call_left}
use Rattle.service.specs.Inside.{memory_with, memory_at, before_in, due_in, waits_in, none}
use Rattle.service.proofs.Back.{memory_there}
use Rattle.service.proofs.Flats.{rise_in, due_in_lem, due_count, due_few, after_tick_in}
use Rattle.service.proofs.Prefixes.{in_front_lem, due_before}

pub delivered_all : (k n : ℕ) → k ≡ 0 → (said_by_tick k n).count ≡ n
delivered_all k n e = rw e

-- only a tick that is not refused delivers
pub delivers : (k n : ℕ) → ((said_by_tick k n).count ≡ 0 → ⊥) → k ≡ 0
delivers k n some = go (eqb k 0) refl
  where
    go : (b : Bool) → eqb k 0 ≡ b → k ≡ 0
    go true e = eqb-true k 0 e
    go false e = absurd (some (ap (λ (b : Bool). (cond {A = SaidTick} b (record { refusal = 0; count = n }) (record { refusal = k; count = 0 })).count) e))

module _ (f : HostMemory) (u : Reading) (room : ℕ) where
  abbrev h : Host
  h = host_from f

  abbrev k : ℕ
  k = tick_refusal h u.0 room

  -- a tick leaves its own reading as the last, or is refused and leaves the last as it was
  pub last_left : unless k u f.last ≡ (call_left f u (ticks room)).last
  last_left = go (eqb k 0)
    where
      go : (b : Bool) → cond b u f.last ≡ (cond b (host_memory (after_tick h u)) f).last
      go true = refl
      go false = refl

  pub idle_left : length f.history ≡ 32 → (tick_says h u.0 room).count ≡ 0 → memory_at f (call_left f u (ticks room)).last ≡ call_left f u (ticks room)
  idle_left long none = go (eqb k 0) refl
    where
      still : k ≡ 0 → memory_at f u ≡ host_memory (after_tick h u)
      still e =
          let s = (tick_is h u.0 room e).sound in
          let few : length (due_of h u.0) ≡ 0 = sym (delivered_all k (length (due_of h u.0)) e) ∙ none in
          sym (ap host_memory (idle h u (length-map f.history held_from ∙ long) s few) ∙ ap (λ (g : HostMemory). memory_at g u) (memory_there f s))

      go : (b : Bool) → eqb k 0 ≡ b → memory_at f (cond b (host_memory (after_tick h u)) f).last ≡ cond b (host_memory (after_tick h u)) f
      go true e = still (eqb-true k 0 e)
      go false e = refl

  pub idle_list : (out : List ℕ) → length out ≡ room → (tick_says h u.0 room).count ≡ 0 → out ≡ tick_list h u.0 out
  idle_list out e none = rw e (go (eqb k 0) refl)
    where
      go : (b : Bool) → eqb k 0 ≡ b → out ≡ cond b (written (due_of h u.0) out) out
      go true z = sym (none_written (due_of h u.0) out (sym (delivered_all k (length (due_of h u.0)) (eqb-true k 0 z)) ∙ none))
      go false z = refl

  -- with what the call found as the last reading, and what is left of the history
  pub delivery_left : (last : Reading) (held : ℕ) (history : List HeldMemory) → k ≡ 0 → last ≡ (call_left f u (ticks room)).last
      → memory_with f u f.started f.starts held history ≡ host_memory (after_tick h u) → memory_with f last f.started f.starts held history ≡ call_left f u (ticks room)
  delivery_left last held history zero is rest =
      let left : call_left f u (ticks room) ≡ host_memory (after_tick h u) = accepted _ (host_memory (after_tick h u)) f zero in
      let now : last ≡ u = is ∙ ap (λ (g : HostMemory). g.last) left in
      ap (λ (v : Reading). memory_with f v f.started f.starts held history) now ∙ rest ∙ sym left

-- what an accepted tick says
module _ (f : HostMemory) (u : Reading) (room count : ℕ) (said : record { refusal = 0; count = count } ≡ tick_says (host_from f) u.0 room) where
  pub not_refused : tick_refusal (host_from f) u.0 room ≡ 0
  not_refused = sym (ap (λ (s : SaidTick). s.refusal) said ∙ tick_refusal_lem (tick_refusal (host_from f) u.0 room) _)

  pub all_due : count ≡ length (due_of (host_from f) u.0)
  all_due = ap (λ (s : SaidTick). s.count) said ∙ (rw not_refused)

  last_is : (call_left f u (ticks room)).last ≡ u
  last_is = ap (λ (g : HostMemory). g.last) (accepted _ (host_memory (after_tick (host_from f) u)) f not_refused)

  module _ (long : length f.history ≡ 32) where
    pub few : (count ≤ f.held) × (f.held ≤ 32)
    few = let is = tick_is (host_from f) u.0 room not_refused in let low = is.sound.held in (omega (arith, all_due, due_few f u.0 (omega arith)), low)

    pub room_for : 16 * length (take count f.history) ≤ room
    room_for = let fits = (tick_is (host_from f) u.0 room not_refused).fits in omega (arith, all_due, length-take-le count f.history (omega (arith, few)))

    -- ---- where none is due

    pub idle_now : count ≡ 0 → memory_at f u ≡ call_left f u (ticks room)
    idle_now none = ap (memory_at f) (sym last_is) ∙ idle_left f u room long (sym (ap (λ (s : SaidTick). s.count) said) ∙ none)

    pub idle_out : (out : List ℕ) → length out ≡ room → count ≡ 0 → out ≡ tick_list (host_from f) u.0 out
    idle_out out e none = idle_list f u room out e (sym (ap (λ (s : SaidTick). s.count) said) ∙ none)

    -- ---- where some are: the first of those held are due, and the others wait

    abbrev l : List HeldMemory
    l = take f.held f.history

    counted : count ≡ length (keep (due_in f.bound u.0) l)
    counted = all_due ∙ sym (due_count f u.0)

    front : (take (length (keep (due_in f.bound u.0) l)) l ≡ keep (due_in f.bound u.0) l) × (drop (length (keep (due_in f.bound u.0) l)) l ≡ keep (waits_in f.bound u.0) l)
    front = in_front_lem before_in (due_in f.bound u.0) (due_before f.bound u.0) l (rise_in f (tick_is (host_from f) u.0 room not_refused).sound)

    pub delivered_now : Sized (host_from f) → memory_with f u f.started f.starts (f.held - count) (pad 32 none (drop count l)) ≡ call_left f u (ticks room)
    delivered_now z =
        let wait : drop count l ≡ keep (waits_in f.bound u.0) l = ap (λ (j : ℕ). drop j l) counted ∙ front.1 in
        let size : f.held - count ≡ length (keep (waits_in f.bound u.0) l) =
        ap (λ (j : ℕ). j - count) (sym (length-take-le f.held f.history (omega (arith, few)))) ∙ sym (length-drop count l) ∙ ap length wait in
        delivery_left f u room u (f.held - count) (pad 32 none (drop count l)) not_refused (sym last_is)
        (ap₂ (λ (j : ℕ) (places : List HeldMemory). memory_with f u f.started f.starts j places) size (ap (pad 32 none) wait) ∙ after_tick_in f u room z not_refused)

    pub delivered_out : (out : List ℕ) → length out ≡ room → written (map held_from (take count f.history)) out ≡ tick_list (host_from f) u.0 out
    delivered_out out e =
        let due : take count f.history ≡ keep (due_in f.bound u.0) l = sym (take-take count f.held f.history few.0) ∙ ap (λ (j : ℕ). take j l) counted ∙ front.0 in
        ap (λ (t : List HeldMemory). written (map held_from t) out) due
        ∙ ap (λ (t : List Held). written t out) (sym (due_in_lem f u.0))
        ∙ sym (rw e (accepted _ (written (due_of (host_from f) u.0) out) out not_refused))

-- a tick answers no more than are due
pub said_least : (k n : ℕ) (s : SaidTick) → s ≡ said_by_tick k n → s.count ≤ n
said_least k n s e = go (eqb k 0) (ap (λ (t : SaidTick). t.count) e)
  where
    go : (b : Bool) → s.count ≡ (cond {A = SaidTick} b (record { refusal = 0; count = n }) (record { refusal = k; count = 0 })).count → s.count ≤ n
    go true c = omega arith
    go false c = omega arith

-- a tick answers at most 32
pub said_few : (f : HostMemory) (u : Reading) (room : ℕ) → length f.history ≡ 32 → (tick_says (host_from f) u.0 room).count ≤ 32
said_few f u room long = go (eqb k 0) refl
  where
    k : ℕ
    k = tick_refusal (host_from f) u.0 room

    due : ℕ
    due = length (due_of (host_from f) u.0)

    go : (b : Bool) → eqb k 0 ≡ b → (cond {A = SaidTick} b (record { refusal = 0; count = due }) (record { refusal = k; count = 0 })).count ≤ 32
    go true e = let is = tick_is (host_from f) u.0 room (eqb-true k 0 e) in let low = is.sound.held in omega (arith, due_few f u.0 (omega arith))
    go false e = zero-le
