-- What the host's definitions say of a flat history, said of its places; and the memory of the state that a call leaves. Assumes nothing.
use mathlib.Core.Path.{◌≡◌, sym, ap, ap₂, ◌∙◌, subst}
use mathlib.Core.Bool.{Bool, true, not}
use mathlib.Core.List.{List, map}
use Prim.Native.Nat.{ℕ, ◌+◌, ◌-◌, ◌≤◌}
use native.Mathlib.Omega.{arith}
use lib.ListN.{length, length-map, take, drop}
use lib.Seq.{length-take-le}
use Rattle.lists.specs.Lists.{all, any, rising, keep, insert, pad}
use Rattle.lists.proofs.Bools.{or_true_left}
use Rattle.lists.proofs.Loops.{keep_both}
use Rattle.lists.proofs.Places.{length_insert}
use Rattle.clock.specs.declared.Reading.{Reading}
use Rattle.orders.specs.declared.Order.{Order}
use Rattle.orders.specs.Orders.{share_fits}
use Rattle.host.specs.declared.Held.{Held}
use Rattle.host.specs.declared.Host.{Host}
use Rattle.host.specs.State.{no_held, no_reading, is_no_held, held_of, starts_of, before, same_name, sound, with, Sized}
use Rattle.host.specs.Start.{start_refusal, with_start, start_of, after_start}
use Rattle.host.specs.Receive.{same_held, other_held, receive_refusal, after_receive}
use Rattle.host.specs.Tick.{due, due_of, waiting_of, tick_refusal, after_tick}
use Rattle.host.specs.Calls.{Call, start, receive, ticks, refusal, becomes}
use Rattle.host.proofs.Facts.{SoundIs, sound_is, is_sound, start_is, receive_is, tick_is}
use Rattle.host.proofs.Outcomes.{accepted, sound_is_kept}
use Rattle.host.proofs.Slides.{with_length}
use Rattle.service.specs.declared.HeldMemory.{HeldMemory}
use Rattle.service.specs.declared.HostMemory.{HostMemory}
use Rattle.service.specs.Memory.{held_from, own_from, host_from, held_memory, host_memory}
use Rattle.service.specs.Inside.{memory_with, before_in, unused_in, due_in, waits_in, none}
use Rattle.lists.proofs.Maps.{take_map, drop_map, all_of_lem, any_of, rising_of, keep_of, insert_of, pad_of}
use Rattle.service.proofs.Back.{all_hold, low, held_back, places_there, own_there}

module _ (f : HostMemory) where
  abbrev h : Host
  h = host_from f

  -- the places of those held
  abbrev l : List HeldMemory
  l = take f.held f.history

  pub held_in : held_of h ≡ map held_from l
  held_in = take_map held_from f.held f.history

  -- ---- the order of those held, and the places behind them, in a sound state

  pub rise_in : SoundIs h → rising before_in l ≡ true
  rise_in s = sym (rising_of held_from before l) ∙ ap (rising before) (sym held_in) ∙ s.rise

  pub unused_in_lem : SoundIs h → all unused_in (drop f.held f.history) ≡ true
  unused_in_lem s = sym (ap (all is_no_held) (drop_map held_from f.held f.history) ∙ all_of_lem held_from is_no_held (drop f.held f.history)) ∙ s.history_unused

  pub sized_in : length f.starts ≡ 4 → length f.history ≡ 32 → Sized h
  sized_in starts history = record { starts = starts; history = length-map f.history held_from ∙ history }

  -- ---- what is held under a name

  any_in : (p : Held → Bool) → any p (held_of h) ≡ any (λ (e : HeldMemory). p (held_from e)) l
  any_in p = ap (any p) held_in ∙ any_of held_from p l

  pub same_in_lem : (x : Held) → any (same_held x) (held_of h) ≡ any (λ (e : HeldMemory). same_held x (held_from e)) l
  same_in_lem x = any_in (same_held x)

  pub other_in_lem : (x : Held) → any (other_held x) (held_of h) ≡ any (λ (e : HeldMemory). other_held x (held_from e)) l
  other_in_lem x = any_in (other_held x)

  pub named_in_lem : (x : Held) → any (same_name x) (held_of h) ≡ any (λ (e : HeldMemory). same_name x (held_from e)) l
  named_in_lem x = any_in (same_name x)

  -- ---- what is due

  pub due_in_lem : (u : ℕ) → due_of h u ≡ map held_from (keep (due_in f.bound u) l)
  due_in_lem u = ap (keep (due f.bound u)) held_in ∙ keep_of held_from (due f.bound u) l

  pub waiting_in_lem : (u : ℕ) → waiting_of h u ≡ map held_from (keep (waits_in f.bound u) l)
  waiting_in_lem u = ap (keep (λ (e : Held). not (due f.bound u e))) held_in ∙ keep_of held_from (λ (e : Held). not (due f.bound u e)) l

  pub due_count : (u : ℕ) → length (keep (due_in f.bound u) l) ≡ length (due_of h u)
  due_count u = sym (ap length (due_in_lem u) ∙ length-map (keep (due_in f.bound u) l) held_from)

  pub due_few : (u : ℕ) → f.held ≤ length f.history → length (due_of h u) ≤ f.held
  due_few u long = omega (arith, due_count u, keep_both (due_in f.bound u) l, length-take-le f.held f.history long)

  -- ---- a sound state with other parts, of which the history stands in places

  pub memory_with_lem : (u : Reading) (started : ℕ) (starts : List Reading) (held : ℕ) (places : List HeldMemory) (g : Host)
      → SoundIs g → g ≡ with h u starts started (map held_from places) held → memory_with f u started starts held places ≡ host_memory g
  memory_with_lem u started starts held places g s e =
      let w : Host = with h u starts started (map held_from places) held in
      let sw : SoundIs w = subst SoundIs e s in
      let back : map held_memory (map held_from places) ≡ places = places_there places (all_hold w sw) in
      let own : own_from f.own ≡ f.own = own_there f.own (low w sw) in
      sym (ap host_memory e ∙ rw (back, own))

  -- ---- what an accepted call leaves

  becomes_sound : (u : Reading) (c : Call) → Sized h → SoundIs h → refusal h u.0 c ≡ 0 → SoundIs (becomes h u c)
  becomes_sound u c z s e =
      sound_is (becomes h u c) (subst (λ (g : Host). sound g ≡ true) (accepted (refusal h u.0 c) (becomes h u c) h e) (sound_is_kept h u c z (is_sound h s)))

  -- one order more
  module _ (z : Sized h) (x : Held) (fits-x : share_fits x.order ≡ true) where
    more_in : pad 32 no_held (insert before x (held_of h)) ≡ map held_from (pad 32 none (insert before_in (held_memory x) l))
    more_in =
        let y : HeldMemory = held_memory x in
        let back : held_from y ≡ x = held_back x (or_true_left (share_fits x.order) (is_no_held x) fits-x) in
        ap (λ (t : List Held). pad 32 no_held (insert before x t)) held_in
        ∙ ap (λ (w : Held). pad 32 no_held (insert before w (map held_from l))) (sym back)
        ∙ ap (pad 32 no_held) (insert_of held_from before y l)
        ∙ sym (pad_of held_from 32 none (insert before_in y l))

    more_held : f.held ≤ 32 → length (insert before x (held_of h)) ≡ f.held + 1
    more_held le = length_insert before x (held_of h) ∙ ap (λ (k : ℕ). k + 1) (length-take-le f.held h.history (omega (arith, z.history)))

  pub after_start_in : (u : Reading) (o : Order) → Sized h → start_refusal h u.0 o ≡ 0
      → memory_with f u (f.started - (f.started - 3) + 1) (pad 4 no_reading (with_start (take f.started f.starts) u)) (f.held + 1) (pad 32 none (insert before_in (held_memory (start_of h u o)) l))
      ≡ host_memory (after_start h u o)
  after_start_in u o z e =
      let is = start_is h u.0 o e in
      let x : Held = start_of h u o in
      let ws : List Reading = with_start (starts_of h) u in
      let count : length ws ≡ f.started - (f.started - 3) + 1 = with_length (starts_of h) u f.started (length-take-le f.started f.starts (omega (arith, z.starts, is.sound.started))) in
      let places : List HeldMemory = pad 32 none (insert before_in (held_memory x) l) in
      let room = is.room in
      memory_with_lem u (f.started - (f.started - 3) + 1) (pad 4 no_reading ws) (f.held + 1) places (after_start h u o) (becomes_sound u (start o) z is.sound e)
      (ap₂ (λ (k j : ℕ). with h u (pad 4 no_reading ws) k (pad 32 no_held (insert before x (held_of h))) j) count (more_held z x is.share (omega arith))
      ∙ ap (λ (t : List Held). with h u (pad 4 no_reading ws) (f.started - (f.started - 3) + 1) t (f.held + 1)) (more_in z x is.share))

  pub after_copy_in : (u : Reading) (link hop : ℕ) (x : Held) → Sized h → receive_refusal h u.0 link hop x ≡ 0
      → memory_with f u f.started f.starts (f.held + 1) (pad 32 none (insert before_in (held_memory x) l)) ≡ host_memory (after_receive h u x)
  after_copy_in u link hop x z e =
      let is = receive_is h u.0 link hop x e in
      let places : List HeldMemory = pad 32 none (insert before_in (held_memory x) l) in
      let room = is.room in
      memory_with_lem u f.started f.starts (f.held + 1) places (after_receive h u x) (becomes_sound u (receive link hop x) z is.sound e)
      (ap (λ (j : ℕ). with h u f.starts f.started (pad 32 no_held (insert before x (held_of h))) j) (more_held z x is.share (omega arith))
      ∙ ap (λ (t : List Held). with h u f.starts f.started t (f.held + 1)) (more_in z x is.share))

  pub after_tick_in : (u : Reading) (room : ℕ) → Sized h → tick_refusal h u.0 room ≡ 0
      → memory_with f u f.started f.starts (length (keep (waits_in f.bound u.0) l)) (pad 32 none (keep (waits_in f.bound u.0) l)) ≡ host_memory (after_tick h u)
  after_tick_in u room z e =
      let is = tick_is h u.0 room e in
      let w : List HeldMemory = keep (waits_in f.bound u.0) l in
      memory_with_lem u f.started f.starts (length w) (pad 32 none w) (after_tick h u) (becomes_sound u (ticks room) z is.sound e)
      (ap (λ (t : List Held). with h u f.starts f.started (pad 32 no_held t) (length t)) (waiting_in_lem u.0)
      ∙ ap₂ (λ (t : List Held) (k : ℕ). with h u f.starts f.started t k) (sym (pad_of held_from 32 none w)) (length-map w held_from))
