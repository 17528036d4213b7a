-- What a host of demand 2 answers a start, and that it keeps the laws that are free of the rule set. Assumes nothing.
use mathlib.Core.Path.{◌≡◌, refl, sym, ap, ap₂, ◌∙◌, subst}
use mathlib.Core.Logic.{◌⊎◌, inl, inr}
use mathlib.Core.Bool.{Bool, true, false, not, cond, ◌&&◌, ◌||◌, false≢true}
use mathlib.Core.List.{List, [], ◌∷◌, map}
use Prim.Native.Nat.{ℕ, ◌+◌, ◌≤◌, ◌<◌}
use native.Mathlib.Omega.{arith}
use borrow.Author.Tests.{not-false, ltb-true, leb-true, le-leb, le-ltb, lt-ltb, eq-eqb}
use lib.Dec.{leb, ltb, eqb}
use lib.ListN.{length, take, get_or}
use lib.Seq.{length-take-le, get_or-take}
use Rattle.lists.specs.Members.{In, All}
use Rattle.lists.proofs.Bools.{or_true_left, or_true_right}
use Rattle.lists.proofs.Listed.{all_member}
use Rattle.lists.proofs.MemberLaws.{in_all, in_append}
use Rattle.lists.proofs.TestLaws.{found, first_among}
use Rattle.clock.specs.Clock.{largest_stamp}
use Rattle.clock.specs.declared.Reading.{Reading}
use Rattle.orders.specs.Orders.{share_fits}
use Rattle.orders.specs.declared.Order.{Order}
use Rattle.network.specs.Network.{m, link, has, worst, bound, window, plan_refusal}
use Rattle.network.specs.declared.Link.{Link}
use Rattle.network.specs.declared.Plan.{Plan}
use Rattle.host.specs.declared.Held.{Held}
use Rattle.host.specs.declared.Host.{Host}
use Rattle.host.specs.State.{no_reading, starts_of, held_of, last_start, earlier, sound}
use Rattle.host.specs.Calls as calls
use Rattle.host.specs.OwnLinks.{ends, own_links}
use Rattle.host.specs.Make.{cleared}
use Rattle.host.specs.Start.{with_start, start_tests, start_refusal}
use Rattle.host.proofs.Facts.{is_sound, start_is}
use Rattle.host.proofs.Keeps.{starts_below}
use Rattle.host.proofs.Fresh.{cleared_link}
use Rattle.host.proofs.Sets.{set_has}
use Rattle.host.proofs.Outcomes.{after_call, starts_are}
use Rattle.diffusion.specs.Hosts.{Carried, start, receive, after, Unrefused, Takes, Sends, Refuses}
use Rattle.diffusion.specs.Ours.{shown, carried, called, backwards, ours}
use Rattle.diffusion.proofs.Laws.{W, Owns, Fourth, Laws}
use Rattle.diffusion.proofs.Answered.{unrefused_is, is_sent, refusal_is}
use Rattle.diffusion.proofs.Ours as our
use Rattle.diffusion.proofs.Ours.{Ok, call_of, takes_is, is_takes, called_after}

-- ---- the last starts, the last first

back_in : (l : List Reading) (a : ℕ) → In a (backwards l) → (r : Reading) × In r l × (a ≡ r.0)
back_in [] a i = absurd i
back_in (r ∷ l) a i = go (back_in l a) (in_append (backwards l) (r.0 ∷ []) a i)
  where
    go : (In a (backwards l) → (s : Reading) × In s l × (a ≡ s.0)) → In a (backwards l) ⊎ In a (r.0 ∷ []) → (s : Reading) × In s (r ∷ l) × (a ≡ s.0)
    go f (inl j) = let s = f j in (s.0, inr s.1, s.2)
    go f (inr (inl e)) = (r, inl refl, e)
    go f (inr (inr j)) = absurd j

back_with : (l : List Reading) (u : Reading) → length l ≤ 4 → backwards (with_start l u) ≡ take 4 (u.0 ∷ backwards l)
back_with [] u s = refl
back_with (a ∷ []) u s = refl
back_with (a ∷ b ∷ []) u s = refl
back_with (a ∷ b ∷ c ∷ []) u s = refl
back_with (a ∷ b ∷ c ∷ d ∷ []) u s = refl
back_with (a ∷ b ∷ c ∷ d ∷ e ∷ l) u s = absurd (omega arith)

back_fourth : (l : List Reading) (w U : ℕ) → length l ≤ 4 → (length l ≡ 4 → (get_or l 0 no_reading).0 + w ≤ U) → Fourth w U (backwards l)
back_fourth [] w U s f = tt
back_fourth (a ∷ []) w U s f = tt
back_fourth (a ∷ b ∷ []) w U s f = tt
back_fourth (a ∷ b ∷ c ∷ []) w U s f = tt
back_fourth (a ∷ b ∷ c ∷ d ∷ []) w U s f = f refl
back_fourth (a ∷ b ∷ c ∷ d ∷ e ∷ l) w U s f = absurd (omega arith)

-- ---- own links

pub own_ends : (P : Plan) (p k : ℕ) → Owns P p k → ends (cleared P) p k ≡ true
own_ends P p k o = ap (λ (l : Link). eqb l.a p || eqb l.b p) (cleared_link P k o.1.0) ∙ go o.1.1
  where
    go : (((link P k).a ≡ p) × ((link P k).b ≡ o.0)) ⊎ (((link P k).a ≡ o.0) × ((link P k).b ≡ p)) → (eqb (link P k).a p || eqb (link P k).b p) ≡ true
    go (inl j) = or_true_left (eqb (link P k).a p) (eqb (link P k).b p) (eq-eqb _ _ j.0)
    go (inr j) = or_true_right (eqb (link P k).a p) (eqb (link P k).b p) (eq-eqb _ _ j.1)

module _ (P : Plan) (p U : ℕ) (h : Host) (k : Ok P p U h) where
  pub same_window : window h.rules h.plan h.d ≡ W P
  unfolding window bound
  same_window = ap₂ (λ (r d : ℕ). window r h.plan d) k.rules k.d ∙ ap (λ (q : Plan). window 1 q (worst P)) k.plan

  length_is : length (starts_of h) ≡ h.started
  length_is = let four = k.sized.starts in let most = k.sound.started in length-take-le h.started h.starts (omega arith)

  length_most : length (starts_of h) ≤ 4
  length_most = let most = k.sound.started in let same = length_is in omega arith

  -- a start that is neither again nor within the window
  spaced : (ltb 0 h.started && eqb U (last_start h)) ≡ false → (leb 4 h.started && not (leb ((get_or h.starts 0 no_reading).0 + window h.rules h.plan h.d) U)) ≡ false
      → All (λ a. a < U) (backwards (starts_of h)) × Fourth (W P) U (backwards (starts_of h))
  spaced again inside = (in_all (λ a. a < U) (backwards (starts_of h)) below, back_fourth (starts_of h) (W P) U length_most back)
    where
      below : (a : ℕ) → In a (backwards (starts_of h)) → a < U
      below a i =
          let f = back_in (starts_of h) a i in
          let less = starts_below h k.sized k.sound (shown U) k.last again in
          subst (λ (b : ℕ). b < U) (sym f.2) (ltb-true _ _ (all_member (λ (r : Reading). earlier r (shown U)) (starts_of h) less f.0 f.1))

      back : length (starts_of h) ≡ 4 → (get_or (starts_of h) 0 no_reading).0 + W P ≤ U
      back four =
          let some : 4 ≡ h.started = sym four ∙ length_is in
          let out : not (leb ((get_or h.starts 0 no_reading).0 + window h.rules h.plan h.d) U) ≡ false = rw (le-leb 4 h.started (omega arith)) at inside in
          let first : get_or (starts_of h) 0 no_reading ≡ get_or h.starts 0 no_reading = get_or-take h.started h.starts 0 no_reading (omega arith) in
          subst (λ (b : ℕ). b ≤ U) (ap₂ (λ (r : Reading) (w : ℕ). r.0 + w) (sym first) same_window) (leb-true _ _ (not-false _ out))

  pub take_start : (o : Order) (x : Carried) → Takes (called U h (start o)) x → (x ≡ record { stamp = U; source = p; order = o }) × (U ≤ largest_stamp) × (share_fits o ≡ true)
      × All (λ a. a < U) (backwards (starts_of h)) × Fourth (W P) U (backwards (starts_of h))
  take_start o x t =
      let i = takes_is U h (start o) x t in
      let f = start_is h U o i.0 in
      let s = spaced f.not_again f.in_window in
      (i.1 ∙ ap (λ (s : ℕ). record { stamp = U; source = s; order = o }) k.own, f.stamp, f.share, s.0, s.1)

  pub start_takes : (o : Order) → Unrefused (called U h (start o)) → Takes (called U h (start o)) (record { stamp = U; source = p; order = o })
  start_takes o u =
      subst (λ (s : ℕ). Takes (called U h (start o)) (record { stamp = U; source = s; order = o })) k.own (is_takes U h (start o) (unrefused_is (start_refusal h U o) _ _ _ _ u))

  pub sends_start : (o : Order) (x : Carried) (i : ℕ) → Takes (called U h (start o)) x → Owns P p i → (hop : ℕ) × Sends (called U h (start o)) (record { what = x; hop = hop }) i
  sends_start o x i t own =
      let z = takes_is U h (start o) x t in
      let on : has (own_links (cleared P) p) i ≡ true = set_has (m P) (ends (cleared P) p) i ∙ ap₂ (λ (a b : Bool). a && b) (lt-ltb i (m P) own.1.0) (own_ends P p i own) in
      let same : own_links h.plan h.own ≡ own_links (cleared P) p = ap₂ own_links k.plan k.own in (
        cond (eqb h.rules 2) 1 0,
        subst (λ (y : Carried). Sends (called U h (start o)) (record { what = y; hop = cond (eqb h.rules 2) 1 0 }) i) (sym z.1)
            (is_sent (start_refusal h U o) _ (cond (eqb h.rules 2) 1 0) _ _ i z.0 (ap (λ (s : ℕ). has s i) same ∙ on)),
      )

  pub held_is_length : length (held_of h) ≡ h.held
  held_is_length = let all = k.sized.history in let most = k.sound.held in length-take-le h.held h.history (omega arith)

  pub full : leb 32 h.held ≡ true → 32 ≤ length (map carried (held_of h))
  full e = let same = held_is_length in let long = map_length (held_of h) in let most : 32 ≤ h.held = leb-true _ _ e in omega arith
    where
      map_length : (l : List Held) → length (map carried l) ≡ length l
      map_length [] = refl
      map_length (x ∷ l) = rw (map_length l)

  pub full_start : (o : Order) → Refuses (called U h (start o)) 14 → (32 ≤ length (map carried (held_of h))) × (U ≤ largest_stamp)
      × All (λ a. a < U) (backwards (starts_of h)) × Fourth (W P) U (backwards (starts_of h))
  unfolding start_tests
  full_start o f =
      let t = found (start_tests h U o) 14 refl (refusal_is (start_refusal h U o) _ _ _ _ 14 f).0 in
      let s = spaced t.1.1.1.1.0 t.1.1.1.1.1.0 in
      (full t.1.1.1.1.1.1, leb-true _ _ (not-false _ t.1.1.0), s.0, s.1)

  pub start_refusals : (o : Order) (r : ℕ) → Refuses (called U h (start o)) r → In r (23 ∷ 10 ∷ 12 ∷ 13 ∷ 14 ∷ [])
  unfolding start_tests
  start_refusals o r f = go (subst (λ (j : ℕ). In j (0 ∷ 9 ∷ 23 ∷ 10 ∷ 11 ∷ 12 ∷ 13 ∷ 14 ∷ [])) e.0 (first_among (start_tests h U o)))
    where
      e : (start_refusal h U o ≡ r) × (start_refusal h U o ≡ 0 → ⊥)
      e = refusal_is (start_refusal h U o) _ _ _ _ r f

      sound_here : sound h ≡ true
      sound_here = is_sound h k.sound

      go : In r (0 ∷ 9 ∷ 23 ∷ 10 ∷ 11 ∷ 12 ∷ 13 ∷ 14 ∷ []) → In r (23 ∷ 10 ∷ 12 ∷ 13 ∷ 14 ∷ [])
      go (inl z) = absurd (e.1 (e.0 ∙ z))
      go (inr (inl z)) = let t = found (start_tests h U o) 9 refl (e.0 ∙ z) in absurd (false≢true (ap not (sym sound_here) ∙ t))
      go (inr (inr (inl z))) = inl z
      go (inr (inr (inr (inl z)))) = inr (inl z)
      go (inr (inr (inr (inr (inl z))))) =
          let t = found (start_tests h U o) 11 refl (e.0 ∙ z) in absurd (false≢true (sym (le-ltb U h.last.0 k.last) ∙ t.1.1.1))
      go (inr (inr (inr (inr (inr (inl z)))))) = inr (inr (inl z))
      go (inr (inr (inr (inr (inr (inr (inl z))))))) = inr (inr (inr (inl z)))
      go (inr (inr (inr (inr (inr (inr (inr (inl z)))))))) = inr (inr (inr (inr (inl z))))
      go (inr (inr (inr (inr (inr (inr (inr (inr z)))))))) = absurd z

  pub starts_start : (o : Order) (x : Carried) → Takes (called U h (start o)) x → backwards (starts_of (after (called U h (start o)) h)) ≡ take 4 (U ∷ backwards (starts_of h))
  starts_start o x t =
      ap (λ (s : Host). backwards (starts_of s)) (called_after U h (start o)) ∙ ap backwards (starts_are h (shown U) (calls.start o) (takes_is U h (start o) x t).0)
      ∙ back_with (starts_of h) (shown U) length_most

-- ---- the laws

pub other_start : (U : ℕ) (h : Host) (o : Order) (r : ℕ) → 14 < r → r < 23 → Refuses (called U h (start o)) r → ⊥
unfolding start_tests
other_start U h o r low high f = go (subst (λ (j : ℕ). In j (0 ∷ 9 ∷ 23 ∷ 10 ∷ 11 ∷ 12 ∷ 13 ∷ 14 ∷ [])) (refusal_is (start_refusal h U o) _ _ _ _ r f).0 (first_among (start_tests h U o)))
  where
    go : In r (0 ∷ 9 ∷ 23 ∷ 10 ∷ 11 ∷ 12 ∷ 13 ∷ 14 ∷ []) → ⊥
    go (inl z) = omega arith
    go (inr (inl z)) = omega arith
    go (inr (inr (inl z))) = omega arith
    go (inr (inr (inr (inl z)))) = omega arith
    go (inr (inr (inr (inr (inl z))))) = omega arith
    go (inr (inr (inr (inr (inr (inl z)))))) = omega arith
    go (inr (inr (inr (inr (inr (inr (inl z))))))) = omega arith
    go (inr (inr (inr (inr (inr (inr (inr (inl z)))))))) = omega arith
    go (inr (inr (inr (inr (inr (inr (inr (inr z)))))))) = z

pub starts_kept : (U : ℕ) (h : Host) (c : calls.Call) → starts_of (calls.becomes h (shown U) c) ≡ starts_of h → starts_of (calls.after h (shown U) c) ≡ starts_of h
starts_kept U h c e = after_call (λ (s : Host). starts_of s ≡ starts_of h) (calls.refusal h U c) (calls.becomes h (shown U) c) h (λ z. e) refl

unfoldable pub laws : (P : Plan) → plan_refusal P ≡ 0 → Laws P (ours P)
laws P e =
    record {
      Ok = Ok P;
      ok_fresh = our.ok_fresh P e;
      ok_later = our.ok_later P;
      ok_tick = λ p U room h k. our.ok_after P p U h (calls.ticks room) k;
      ok_call = λ p U h c k. subst (Ok P p U) (sym (called_after U h c)) (our.ok_after P p U h (call_of c) k);
      rising = λ p U h k. our.carried_rises (held_of h) k.sound.rise;
      held_fresh = λ p x i. i;
      lent_enough = λ p U h k. our.lent_enough U h k.sound.held;
      tick_keeps = λ p U room h x k. our.tick_keeps P p U room h k x;
      tick_adds_none = our.tick_adds_none;
      tick_clears = λ p U room h x k. our.tick_clears P p U room h k x;
      delivered_rising = our.delivered_rising P;
      delivered_held = λ p U room h x k. our.delivered_held P p U room h k x;
      delivered_all = λ p U room h x k. our.delivered_all P p U room h k x;
      starts_fresh = λ p. refl;
      starts_tick = λ U room h. ap backwards (starts_kept U h (calls.ticks room) refl);
      starts_receive = λ U h i c. ap (λ (s : Host). backwards (starts_of s)) (called_after U h (receive i c)) ∙ ap backwards (starts_kept U h (call_of (receive i c)) refl);
      starts_start = λ p U h o x k. starts_start P p U h k o x;
      call_held = our.call_held;
      call_keeps = our.call_keeps;
      call_adds = our.call_adds;
      start_takes = λ p U h o k. start_takes P p U h k o;
      take_start = λ p U h o x k. take_start P p U h k o x;
      sends_start = λ p U h o x i k. sends_start P p U h k o x i;
      full_start = λ p U h o k. full_start P p U h k o;
      start_refusals = λ p U h o r k. start_refusals P p U h k o r;
      tick_refusal_lem = λ p U room h k. our.tick_refusal_lem P p U room h k;
      other_start = λ U h o. either U h o;
    }
  where
    either : (U : ℕ) (h : Host) (o : Order) → Refuses (called U h (start o)) 20 ⊎ Refuses (called U h (start o)) 21 → ⊥
    either U h o (inl f) = other_start U h o 20 (omega arith) (omega arith) f
    either U h o (inr f) = other_start U h o 21 (omega arith) (omega arith) f
