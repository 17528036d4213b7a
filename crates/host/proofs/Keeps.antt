-- Every call keeps a state sound, and a made host is sound. Assumes nothing.
use mathlib.Core.Path.{◌≡◌, refl, sym, ap, subst, ◌∙◌}
use mathlib.Core.Logic.{◌⊎◌, inl, inr}
use mathlib.Core.Bool.{Bool, true, false, not, ◌&&◌, and-true}
use mathlib.Core.List.{List, [], ◌∷◌, ◌++◌, append_assoc}
use Prim.Native.Nat.{ℕ, ◌+◌, ◌-◌, ◌≤◌, ◌<◌}
use native.Mathlib.Omega.{arith}
use native.Mathlib.Nat.{le_refl, le_trans, le_of_lt, min-le_left}
use borrow.Author.Tests.{not-true, leb-true, le-leb, lt-ltb, ltb-true, eqb-false}
use lib.Dec.{leb, ltb, eqb}
use lib.ListN.{length, get_or, take, drop, length-append, length-take, replicate}
use lib.Seq.{length-take-le, get_or-take, get_or_at}
use Rattle.lists.specs.Lists.{all, any, rising, insert, pad}
use Rattle.lists.specs.Members.{In}
use Rattle.lists.proofs.Bools.{false_unless, and_left_lem, and_right, or_cases, or_true_left, or_true_right}
use Rattle.lists.proofs.Listed.{all_member, member_all, all_drop, all_append, all_keep, none_member, member_none, in_some, in_insert}
use Rattle.lists.proofs.Order.{insert_rising, keep_rising}
use Rattle.lists.proofs.Rises.{rising_drop, rising_snoc, before_last}
use Rattle.lists.proofs.Places.{length_insert, take_pad, drop_pad}
use Rattle.lists.proofs.Loops.{keep_both, all_at}
use Rattle.clock.specs.declared.Reading.{Reading}
use Rattle.orders.specs.Orders.{same_order}
use Rattle.orders.specs.declared.Order.{Order}
use Rattle.network.specs.Network as net
use Rattle.host.specs.declared.Held.{Held}
use Rattle.host.specs.declared.Host.{Host}
use Rattle.host.specs.State.{no_reading, no_held, is_no_reading, is_no_held, starts_of, held_of, last_start, same_name, before, earlier, fits, own_started, not_above, Sized, at}
use Rattle.host.specs.Start.{with_start, start_of, after_start}
use Rattle.host.specs.Receive.{same_held, other_held, after_receive}
use Rattle.host.specs.Tick.{due, waiting_of, after_tick}
use Rattle.host.proofs.Names.{name_is, before_trans, before_total}
use Rattle.host.proofs.Slides.{with_length}
use Rattle.host.proofs.Facts.{SoundIs, StartIs, ReceiveIs, TickIs}

earlier_trans : (x y z : Reading) → earlier x y ≡ true → earlier y z ≡ true → earlier x z ≡ true
earlier_trans x y z a b = let f : x.0 < y.0 = ltb-true _ _ a in let g : y.0 < z.0 = ltb-true _ _ b in lt-ltb x.0 z.0 (omega arith)

-- ---- a state at a reading, with these starts and these orders

pub held_at : (h : Host) (u : Reading) (k : ℕ) (starts : List Reading) (l : List Held) → held_of (at h u k starts l) ≡ l
held_at h u k starts l = take_pad 32 no_held l

module _ (h : Host) (s : SoundIs h) (u : Reading) (l : List Held) (few : length l ≤ 32) (fit : all (fits (net.n h.plan)) l ≡ true) (rise : rising before l ≡ true) where
  at_sound : (k : ℕ) (starts : List Reading) → k ≤ 4 → rising earlier (take k starts) ≡ true → all (not_above u.0) (take k starts) ≡ true
      → all is_no_reading (drop k starts) ≡ true → all (own_started h.own k (get_or starts (k - 1) no_reading).0) l ≡ true → SoundIs (at h u k starts l)
  at_sound k starts most up passed unused own =
      let same : l ≡ held_of (at h u k starts l) = sym (held_at h u k starts l) in
      record {
        ranges = s.ranges;
        links = s.links;
        d_low = s.d_low;
        d_high = s.d_high;
        formula = s.formula;
        held = few;
        fit = subst (λ (t : List Held). all (fits (net.n h.plan)) t ≡ true) same fit;
        rise = subst (λ (t : List Held). rising before t ≡ true) same rise;
        own_started_lem = subst (λ (t : List Held). all (own_started h.own k (get_or starts (k - 1) no_reading).0) t ≡ true) same own;
        started = most;
        starts_rise = up;
        starts_passed = passed;
        rules = s.rules;
        own = s.own;
        links_unused = s.links_unused;
        starts_unused = unused;
        history_unused = drop_pad is_no_held no_held 32 l (length l) refl (omega arith);
      }

  -- with the starts as they were
  same_starts : h.last.0 ≤ u.0 → all (own_started h.own h.started (last_start h)) l ≡ true → SoundIs (at h u h.started h.starts l)
  same_starts later own =
      at_sound h.started h.starts s.started s.starts_rise
      (member_all (not_above u.0) (starts_of h) (λ x i. le-leb _ _ (le_trans (leb-true _ _ (all_member (not_above h.last.0) (starts_of h) s.starts_passed x i)) later)))
      s.starts_unused own

-- ---- an order more

-- an order under a new name, in range
insert_fits : (h : Host) (x : Held) → SoundIs h → fits (net.n h.plan) x ≡ true → all (fits (net.n h.plan)) (insert before x (held_of h)) ≡ true
insert_fits h x s f = member_all (fits (net.n h.plan)) (insert before x (held_of h)) (λ y i. go y (in_insert before x (held_of h) y i))
  where
    go : (y : Held) → (y ≡ x) ⊎ In y (held_of h) → fits (net.n h.plan) y ≡ true
    go y (inl e) = ap (fits (net.n h.plan)) e ∙ f
    go y (inr i) = all_member (fits (net.n h.plan)) (held_of h) s.fit y i

insert_rises : (h : Host) (x : Held) → SoundIs h → any (same_name x) (held_of h) ≡ false → rising before (insert before x (held_of h)) ≡ true
insert_rises h x s new = insert_rising before (same_name x) x (before_total x) (held_of h) s.rise new

pub held_most : (h : Host) → length (held_of h) ≤ h.held
held_most h = rw (length-take h.held h.history) (min-le_left h.held (length h.history))

pub insert_few : (h : Host) (x : Held) → h.held < 32 → length (insert before x (held_of h)) ≤ 32
insert_few h x room = let long = length_insert before x (held_of h) in omega (arith, held_most h)

-- what may be held of the host's own: y is another's, or its stamp is at most the last start
own_is : (own k newest : ℕ) (y : Held) → own_started own k newest y ≡ true → (eqb y.source own ≡ false) ⊎ ((0 < k) × (y.stamp.0 ≤ newest))
own_is own k newest y e = go (or_cases (not (eqb y.source own)) (ltb 0 k && leb y.stamp.0 newest) e)
  where
    go : (not (eqb y.source own) ≡ true) ⊎ ((ltb 0 k && leb y.stamp.0 newest) ≡ true) → (eqb y.source own ≡ false) ⊎ ((0 < k) × (y.stamp.0 ≤ newest))
    go (inl q) = inl (not-true _ q)
    go (inr q) = inr (ltb-true _ _ (and_left_lem (ltb 0 k) (leb y.stamp.0 newest) q), leb-true _ _ (and_right (ltb 0 k) (leb y.stamp.0 newest) q))

other_started : (own k newest : ℕ) (y : Held) → eqb y.source own ≡ false → own_started own k newest y ≡ true
other_started own k newest y e = or_true_left (not (eqb y.source own)) (ltb 0 k && leb y.stamp.0 newest) (ap not e)

stamp_started : (own k newest : ℕ) (y : Held) → 0 < k → y.stamp.0 ≤ newest → own_started own k newest y ≡ true
stamp_started own k newest y low most = or_true_right (not (eqb y.source own)) (ltb 0 k && leb y.stamp.0 newest) (simp (lt-ltb _ _ low, le-leb _ _ most))

-- ---- receive

neither : (a q : Bool) → (a && q) ≡ false → (a && not q) ≡ false → a ≡ false
neither true true e f = e
neither true false e f = f
neither false q e f = refl

-- nothing is held under the name of a copy that 19 and 20 let pass
pub new_name : (x : Held) (l : List Held) → any (same_held x) l ≡ false → any (other_held x) l ≡ false → any (same_name x) l ≡ false
new_name x l same other =
    member_none (same_name x) l (λ y i. neither (same_name x y) (same_order x.order y.order) (none_member (same_held x) l same y i) (none_member (other_held x) l other y i))

-- and its source is another host
pub other_source : (h : Host) (x : Held) → any (same_name x) (held_of h) ≡ false → (eqb x.source h.own && not (any (same_name x) (held_of h))) ≡ false → eqb x.source h.own ≡ false
other_source h x new e = sym (and-true (eqb x.source h.own)) ∙ (rw new at e)

pub receive_keeps : (h : Host) (u : Reading) (arrival hop : ℕ) (x : Held) → ReceiveIs h u.0 arrival hop x → SoundIs (after_receive h u x)
receive_keeps h u arrival hop x k =
    let s = k.sound in
    let new : any (same_name x) (held_of h) ≡ false = new_name x (held_of h) k.not_known k.not_other in
    same_starts h s u (insert before x (held_of h)) (insert_few h x k.room)
    (insert_fits h x s (simp (le-leb _ _ k.stamp, lt-ltb _ _ k.source, k.share))) (insert_rises h x s new) k.later
    (member_all (own_started h.own h.started (last_start h)) (insert before x (held_of h)) (λ y i. go y (in_insert before x (held_of h) y i)))
  where
    go : (y : Held) → (y ≡ x) ⊎ In y (held_of h) → own_started h.own h.started (last_start h) y ≡ true
    go y (inl e) =
        ap (own_started h.own h.started (last_start h)) e
        ∙ other_started h.own h.started (last_start h) x (other_source h x (new_name x (held_of h) k.not_known k.not_other) k.not_own)
    go y (inr i) = all_member (own_started h.own h.started (last_start h)) (held_of h) k.sound.own_started_lem y i

-- ---- tick

pub tick_keeps : (h : Host) (u : Reading) (room : ℕ) → TickIs h u.0 room → SoundIs (after_tick h u)
tick_keeps h u room k =
    let s = k.sound in
    let w : Held → Bool = λ e. not (due h.bound u.0 e) in
    let both = keep_both (due h.bound u.0) (held_of h) in
    let most = s.held in
    same_starts h s u (waiting_of h u.0) (omega (arith, held_most h)) (all_keep (fits (net.n h.plan)) w (held_of h) s.fit)
    (keep_rising before before_trans w (held_of h) s.rise) k.later (all_keep (own_started h.own h.started (last_start h)) w (held_of h) s.own_started_lem)

-- ---- start

pub starts_most : (l : List Reading) (u : Reading) → length (with_start l u) ≤ 4
starts_most l u = let long = with_length l u (length l) refl in omega arith

-- a reading that is neither below the last reading nor the last start is above every start
module _ (h : Host) (z : Sized h) (s : SoundIs h) (u : Reading) (later : h.last.0 ≤ u.0) (not_again : (ltb 0 h.started && eqb u.0 (last_start h)) ≡ false) where
  l : List Reading
  l = starts_of h

  l_length : length l ≡ h.started
  unfolding l
  l_length = let four = z.starts in let most = s.started in length-take-le h.started h.starts (omega arith)

  -- the last start is below the reading
  pub newest_below : 0 < h.started → last_start h < u.0
  unfolding l
  newest_below low =
      let four = z.starts in
      let most = s.started in
      let in_list : get_or l (h.started - 1) no_reading ≡ get_or h.starts (h.started - 1) no_reading = get_or-take h.started h.starts (h.started - 1) no_reading (omega arith) in
      let passed : (get_or l (h.started - 1) no_reading).0 ≤ h.last.0 = leb-true _ _ (all_at (not_above h.last.0) no_reading l (h.started - 1) (omega (arith, l_length)) s.starts_passed) in
      let at_most : last_start h ≤ h.last.0 = subst (λ (r : Reading). r.0 ≤ h.last.0) in_list passed in
      let differ : u.0 ≡ last_start h → ⊥ = eqb-false _ _ (rw (lt-ltb 0 h.started low) at not_again) in
      omega arith

  -- and so is each start
  pub starts_below : all (λ (r : Reading). earlier r u) (starts_of h) ≡ true
  unfolding l
  starts_below = member_all (λ (r : Reading). earlier r u) l (λ x i. lt-ltb _ _ (go x i (before_last earlier earlier_trans no_reading l s.starts_rise x i)))
    where
      four : length h.starts ≡ 4
      four = z.starts

      low : (x : Reading) → In x l → 0 < h.started
      low x i = subst (λ (n : ℕ). 0 < n) l_length (in_some l x i)

      same : (x : Reading) → In x l → get_or l (length l - 1) no_reading ≡ get_or h.starts (h.started - 1) no_reading
      same x i =
          ap (λ (n : ℕ). get_or l (n - 1) no_reading) l_length
          ∙ get_or-take h.started h.starts (h.started - 1) no_reading (let some = low x i in omega arith)

      go : (x : Reading) → In x l → (x ≡ get_or l (length l - 1) no_reading) ⊎ (earlier x (get_or l (length l - 1) no_reading) ≡ true) → x.0 < u.0
      go x i (inl e) = subst (λ (r : Reading). r.0 < u.0) (sym (e ∙ same x i)) (newest_below (low x i))
      go x i (inr e) =
          let less : x.0 < (get_or l (length l - 1) no_reading).0 = ltb-true _ _ e in
          let last : (get_or l (length l - 1) no_reading).0 ≡ last_start h = ap (λ (r : Reading). r.0) (same x i) in
          let below = newest_below (low x i) in
          omega arith

module _ (h : Host) (z : Sized h) (u : Reading) (o : Order) (k : StartIs h u.0 o) where
  s : SoundIs h
  s = k.sound

  -- nothing is held under the new name
  pub new_start : any (same_name (start_of h u o)) (held_of h) ≡ false
  new_start = member_none (same_name (start_of h u o)) (held_of h) (λ y i. false_unless (same_name (start_of h u o) y) (λ e. go y e (own_is h.own h.started (last_start h) y (all_member (own_started h.own h.started (last_start h)) (held_of h) k.sound.own_started_lem y i))))
    where
      go : (y : Held) → same_name (start_of h u o) y ≡ true → (eqb y.source h.own ≡ false) ⊎ ((0 < h.started) × (y.stamp.0 ≤ last_start h)) → ⊥
      go y e (inl q) = eqb-false _ _ q (sym (name_is (start_of h u o) y e).1)
      go y e (inr q) =
          let below = newest_below h z k.sound u k.later k.not_again q.0 in
          let same : u.0 ≡ y.stamp.0 = (name_is (start_of h u o) y e).0 in
          let most : y.stamp.0 ≤ last_start h = q.1 in
          omega arith

  ws : List Reading
  ws = with_start (starts_of h) u

  -- the last of the new starts is the reading
  pub newest_is : get_or (pad 4 no_reading (with_start (starts_of h) u)) (length (with_start (starts_of h) u) - 1) no_reading ≡ u
  newest_is =
      let old : List Reading = drop (length (starts_of h) - 3) (starts_of h) in
      let rest : List Reading = replicate (4 - length (with_start (starts_of h) u)) no_reading in
      let long : length (old ++ (u ∷ [])) ≡ length old + 1 = length-append old (u ∷ []) in
      ap (λ (t : List Reading). get_or t (length (with_start (starts_of h) u) - 1) no_reading) (append_assoc old (u ∷ []) rest)
      ∙ get_or_at old u rest no_reading (length (old ++ (u ∷ [])) - 1) (omega arith)

  pub start_keeps : SoundIs (after_start h u o)
  unfolding s ws
  start_keeps =
      let x = start_of h u o in
      let same : with_start (starts_of h) u ≡ take (length ws) (pad 4 no_reading ws) = sym (take_pad 4 no_reading ws) in
      let old : List Reading = drop (length (starts_of h) - 3) (starts_of h) in
      let below : all (λ (r : Reading). earlier r u) old ≡ true = all_drop (λ (r : Reading). earlier r u) (length (starts_of h) - 3) (starts_of h) (starts_below h z k.sound u k.later k.not_again) in
      let passed : all (not_above u.0) ws ≡ true =
      all_append (not_above u.0) old (u ∷ [])
      (member_all (not_above u.0) old (λ y i. le-leb y.0 u.0 (le_of_lt (ltb-true y.0 u.0 (all_member (λ (r : Reading). earlier r u) old below y i)))))
      (simp (le-leb u.0 u.0 (le_refl u.0))) in
      at_sound h s u (insert before x (held_of h)) (insert_few h x k.room)
      (insert_fits h x s (simp (le-leb _ _ k.stamp, lt-ltb _ _ s.own, k.share)))
      (insert_rises h x s new_start)
      (length ws) (pad 4 no_reading ws) (starts_most (starts_of h) u)
      (subst (λ (t : List Reading). rising earlier t ≡ true) same (rising_snoc earlier u old (rising_drop earlier (length (starts_of h) - 3) (starts_of h) s.starts_rise) below))
      (subst (λ (t : List Reading). all (not_above u.0) t ≡ true) same passed)
      (drop_pad is_no_reading no_reading 4 ws (length ws) refl (le_refl (length ws)))
      (subst (λ (r : Reading). all (own_started h.own (length ws) r.0) (insert before x (held_of h)) ≡ true) (sym newest_is)
      (member_all (own_started h.own (length ws) u.0) (insert before x (held_of h)) (λ y i. go y (in_insert before x (held_of h) y i))))
    where
      some : 0 < length ws
      some = let long = length-append (drop (length (starts_of h) - 3) (starts_of h)) (u ∷ []) in omega arith

      go : (y : Held) → (y ≡ start_of h u o) ⊎ In y (held_of h) → own_started h.own (length ws) u.0 y ≡ true
      go y (inl e) = stamp_started h.own (length ws) u.0 y some (subst (λ (t : Held). t.stamp.0 ≤ u.0) (sym e) (le_refl u.0))
      go y (inr i) = old (own_is h.own h.started (last_start h) y (all_member (own_started h.own h.started (last_start h)) (held_of h) k.sound.own_started_lem y i))
        where
          old : (eqb y.source h.own ≡ false) ⊎ ((0 < h.started) × (y.stamp.0 ≤ last_start h)) → own_started h.own (length ws) u.0 y ≡ true
          old (inl q) = other_started h.own (length ws) u.0 y q
          old (inr q) = let below = newest_below h z k.sound u k.later k.not_again q.0 in let most : y.stamp.0 ≤ last_start h = q.1 in stamp_started h.own (length ws) u.0 y some (omega arith)
