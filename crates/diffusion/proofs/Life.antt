-- The life of one host in a run, from the laws of a host: what is held was taken, is held till it is due, and so on. Assumes nothing.
use mathlib.Core.Path.{◌≡◌, refl, sym, ap, ◌∙◌, subst}
use mathlib.Core.Logic.{◌⊎◌, inl, inr}
use mathlib.Core.Bool.{Bool, true, false, cond}
use mathlib.Core.List.{List, [], ◌∷◌}
use Prim.Native.Nat.{ℕ, zero, suc, ◌+◌, ◌≤◌, ◌<◌}
use native.Mathlib.Decide.{ℕ_discrete, dec_le}
use native.Mathlib.Nat.{not-suc-le-zero}
use native.Mathlib.Omega.{arith}
use borrow.Author.Tests.{leb-true}
use lib.Dec.{leb}
use Rattle.lists.specs.Members.{In}
use Rattle.orders.specs.Orders.{share_fits}
use Rattle.clock.specs.Clock.{largest_reading, largest_stamp}
use Rattle.network.specs.Network.{n}
use Rattle.network.specs.declared.Plan.{Plan}
use Rattle.diffusion.specs.Hosts.{Carried, Copy, Call, start, receive, Answer, refused, accepted, Host, after, Unrefused, Takes, Sends, IsStart, IsReceive}
use Rattle.diffusion.specs.Run.{Story, reading, calls_at, room_at, run, Some, before, ticked, Starts-at, Takes-at, Sends-at}
use Rattle.diffusion.proofs.Laws.{Δ, Owns, Laws, FirstRules, Timed}

pub sends_takes : {S : Type 0} (a : Answer S) (c : Copy) (k : ℕ) → Sends a c k → Takes a c.what
sends_takes (refused r) c k h = absurd h
sends_takes (accepted s y on hop) c k h = ap (λ (d : Copy). d.what) h.0

pub takes_unrefused : {S : Type 0} (a : Answer S) (x : Carried) → Takes a x → Unrefused a
takes_unrefused (refused r) x h = h
takes_unrefused (accepted s y on hop) x h = tt

pub some_map : (H : Host) (Q Q' : H.State → Call → Type 0) → ((s : H.State) (c : Call) → Q s c → Q' s c)
    → (U : ℕ) (s : H.State) (cs : List Call) → Some H Q U s cs → Some H Q' U s cs
unfolding Some
some_map H Q Q' f U s [] h = h
some_map H Q Q' f U s (c ∷ cs) (inl h) = inl (f s c h)
some_map H Q Q' f U s (c ∷ cs) (inr h) = inr (some_map H Q Q' f U (after (H.call U s c) s) cs h)

module _ (P : Plan) (H : Host) (L : Laws P H) (B : FirstRules P H L) where
  -- a call that happens, with the state that it met: an invariant holds there, and what is held there is held at the end
  pub run_keeps : (U : ℕ) (s : H.State) (cs : List Call) (y : Carried) → In y (H.held s) → In y (H.held (run H U s cs))
  unfolding run
  run_keeps U s [] y h = h
  run_keeps U s (c ∷ cs) y h = run_keeps U (after (H.call U s c) s) cs y (L.call_keeps U s c y h)

  pub run_ok : (p U : ℕ) (s : H.State) (cs : List Call) → L.Ok p U s → L.Ok p U (run H U s cs)
  unfolding run
  run_ok p U s [] h = h
  run_ok p U s (c ∷ cs) h = run_ok p U (after (H.call U s c) s) cs (L.ok_call p U s c h)

  pub pick : (Q : H.State → Call → Type 0) (p U : ℕ) (s : H.State) (cs : List Call) → L.Ok p U s → Some H Q U s cs
      → (s' : H.State) × (c : Call) × L.Ok p U s' × Q s' c × ((y : Carried) → In y (H.held s) → In y (H.held s')) × ((y : Carried) → In y (H.held s') → In y (H.held (run H U s cs)))
  unfolding Some run
  pick Q p U s [] ok h = absurd h
  pick Q p U s (c ∷ cs) ok (inl h) = (s, c, ok, h, (λ y i. i), (λ y i. run_keeps U (after (H.call U s c) s) cs y (L.call_keeps U s c y i)))
  pick Q p U s (c ∷ cs) ok (inr h) =
      let r = pick Q p U (after (H.call U s c) s) cs (L.ok_call p U s c ok) h in
      (r.0, r.1, r.2, r.3, (λ y i. r.4 y (L.call_keeps U s c y i)), r.5)

  -- what is held after the calls was held before or was taken
  pub run_held : (U : ℕ) (s : H.State) (cs : List Call) (y : Carried) → In y (H.held (run H U s cs))
      → In y (H.held s) ⊎ Some H (λ s c. Takes (H.call U s c) y) U s cs
  unfolding Some run
  run_held U s [] y h = inl h
  run_held U s (c ∷ cs) y h = go (run_held U (after (H.call U s c) s) cs y h)
    where
      now : Takes (H.call U s c) y ⊎ In y (H.held s) → In y (H.held s) ⊎ Some H (λ s c. Takes (H.call U s c) y) U s (c ∷ cs)
      now (inl t) = inr (inl t)
      now (inr i) = inl i

      go : In y (H.held (after (H.call U s c) s)) ⊎ Some H (λ s c. Takes (H.call U s c) y) U (after (H.call U s c) s) cs
          → In y (H.held s) ⊎ Some H (λ s c. Takes (H.call U s c) y) U s (c ∷ cs)
      go (inl i) = now (L.call_held U s c y i)
      go (inr r) = inr (inr r)

  pub some_held : (U : ℕ) (s : H.State) (cs : List Call) (y : Carried) → Some H (λ s c. Takes (H.call U s c) y) U s cs → In y (H.held (run H U s cs))
  unfolding Some run
  some_held U s [] y h = absurd h
  some_held U s (c ∷ cs) y (inl h) = run_keeps U (after (H.call U s c) s) cs y (L.call_adds U s c y h)
  some_held U s (c ∷ cs) y (inr h) = some_held U (after (H.call U s c) s) cs y h

  -- what is taken was started here or handed over a link
  abbrev pub Begun : ℕ → ℕ → Carried → H.State → Call → Type 0
  Begun p U x s c = IsStart p U x c × Unrefused (H.call U s c)

  take_split : (p U : ℕ) (s : H.State) (c : Call) (x : Carried) → L.Ok p U s → Takes (H.call U s c) x → Begun p U x s c ⊎ ((k : ℕ) × (d : Copy) × (x ≡ d.what) × IsReceive k d c)
  take_split p U s (start o) x ok h = inl ((L.take_start p U s o x ok h).0, takes_unrefused (H.call U s (start o)) x h)
  take_split p U s (receive k d) x ok h = inr (k, d, (B.take_receive p U s k d x ok h).0, (refl, refl))

  pub some_split : (p U : ℕ) (s : H.State) (cs : List Call) (x : Carried) → L.Ok p U s → Some H (λ s c. Takes (H.call U s c) x) U s cs
      → Some H (Begun p U x) U s cs ⊎ ((k : ℕ) × (d : Copy) × (x ≡ d.what) × Some H (λ s c. IsReceive k d c) U s cs)
  unfolding Some
  some_split p U s [] x ok h = absurd h
  some_split p U s (c ∷ cs) x ok (inl h) = now (take_split p U s c x ok h)
    where
      now : Begun p U x s c ⊎ ((k : ℕ) × (d : Copy) × (x ≡ d.what) × IsReceive k d c)
          → Some H (Begun p U x) U s (c ∷ cs) ⊎ ((k : ℕ) × (d : Copy) × (x ≡ d.what) × Some H (λ s c. IsReceive k d c) U s (c ∷ cs))
      now (inl a) = inl (inl a)
      now (inr a) = inr (a.0, a.1, a.2, inl a.3)
  some_split p U s (c ∷ cs) x ok (inr h) = deeper (some_split p U (after (H.call U s c) s) cs x (L.ok_call p U s c ok) h)
    where
      deeper : Some H (Begun p U x) U (after (H.call U s c) s) cs ⊎ ((k : ℕ) × (d : Copy) × (x ≡ d.what) × Some H (λ s c. IsReceive k d c) U (after (H.call U s c) s) cs)
          → Some H (Begun p U x) U s (c ∷ cs) ⊎ ((k : ℕ) × (d : Copy) × (x ≡ d.what) × Some H (λ s c. IsReceive k d c) U s (c ∷ cs))
      deeper (inl a) = inl (inr a)
      deeper (inr a) = inr (a.0, a.1, a.2, inr a.3)

  -- what is taken is sent on link k or was handed over it
  abbrev SentOn : ℕ → Carried → ℕ → H.State → Call → Type 0
  SentOn U x k s c = (h : ℕ) × Sends (H.call U s c) (record { what = x; hop = h }) k

  take_sends : (p U : ℕ) (s : H.State) (c : Call) (x : Carried) (k : ℕ) → L.Ok p U s → Owns P p k → Takes (H.call U s c) x
      → SentOn U x k s c ⊎ ((d : Copy) × (x ≡ d.what) × IsReceive k d c)
  take_sends p U s (start o) x k ok own h = inl (L.sends_start p U s o x k ok h own)
  take_sends p U s (receive j d) x k ok own h = go (ℕ_discrete k j)
    where
      go : Dec (k ≡ j) → SentOn U x k s (receive j d) ⊎ ((e : Copy) × (x ≡ e.what) × IsReceive k e (receive j d))
      go (yes e) = inr (d, (B.take_receive p U s j d x ok h).0, (e, refl))
      go (no n) = inl (B.sends_receive p U s j d x k ok h own n)

  pub some_sends : (p U : ℕ) (s : H.State) (cs : List Call) (x : Carried) (k : ℕ) → L.Ok p U s → Owns P p k → Some H (λ s c. Takes (H.call U s c) x) U s cs
      → ((h : ℕ) × Some H (λ s c. Sends (H.call U s c) (record { what = x; hop = h }) k) U s cs) ⊎ ((d : Copy) × (x ≡ d.what) × Some H (λ s c. IsReceive k d c) U s cs)
  unfolding Some
  some_sends p U s [] x k ok own h = absurd h
  some_sends p U s (c ∷ cs) x k ok own (inl h) = now (take_sends p U s c x k ok own h)
    where
      now : SentOn U x k s c ⊎ ((d : Copy) × (x ≡ d.what) × IsReceive k d c)
          → ((h : ℕ) × Some H (λ s c. Sends (H.call U s c) (record { what = x; hop = h }) k) U s (c ∷ cs)) ⊎ ((d : Copy) × (x ≡ d.what) × Some H (λ s c. IsReceive k d c) U s (c ∷ cs))
      now (inl a) = inl (a.0, inl a.1)
      now (inr b) = inr (b.0, b.1, inl b.2)
  some_sends p U s (c ∷ cs) x k ok own (inr h) = deeper (some_sends p U (after (H.call U s c) s) cs x k (L.ok_call p U s c ok) own h)
    where
      deeper : ((h : ℕ) × Some H (λ s c. Sends (H.call U s c) (record { what = x; hop = h }) k) U (after (H.call U s c) s) cs) ⊎ ((d : Copy) × (x ≡ d.what) × Some H (λ s c. IsReceive k d c) U (after (H.call U s c) s) cs)
          → ((h : ℕ) × Some H (λ s c. Sends (H.call U s c) (record { what = x; hop = h }) k) U s (c ∷ cs)) ⊎ ((d : Copy) × (x ≡ d.what) × Some H (λ s c. IsReceive k d c) U s (c ∷ cs))
      deeper (inl a) = inl (a.0, inr a.1)
      deeper (inr b) = inr (b.0, b.1, inr b.2)

  -- a start that is not refused takes the order
  pub begun_takes : (p U : ℕ) (x : Carried) (s : H.State) (c : Call) → L.Ok p U s → Begun p U x s c → Takes (H.call U s c) x
  begun_takes p U x s (start o) ok h = subst (λ (z : Carried). Takes (H.call U s (start o)) z) (sym h.0) (L.start_takes p U s o ok h.1)
  begun_takes p U x s (receive k d) ok h = absurd h.0

  some_ok : (Q Q' : H.State → Call → Type 0) (p U : ℕ) → ((s : H.State) (c : Call) → L.Ok p U s → Q s c → Q' s c)
      → (s : H.State) (cs : List Call) → L.Ok p U s → Some H Q U s cs → Some H Q' U s cs
  unfolding Some
  some_ok Q Q' p U f s [] ok h = h
  some_ok Q Q' p U f s (c ∷ cs) ok (inl h) = inl (f s c ok h)
  some_ok Q Q' p U f s (c ∷ cs) ok (inr h) = inr (some_ok Q Q' p U f (after (H.call U s c) s) cs (L.ok_call p U s c ok) h)

  -- an order is taken before it is due
  take_time : 1 ≤ Δ P → (p U : ℕ) (s : H.State) (c : Call) (x : Carried) → L.Ok p U s → Takes (H.call U s c) x → U < x.stamp + Δ P
  take_time b p U s (start o) x ok h = let e = ap (λ (z : Carried). z.stamp) (L.take_start p U s o x ok h).0 in omega arith
  take_time b p U s (receive k d) x ok h = let soon = (B.take_receive p U s k d x ok h).1 in omega arith

  module _ (R : Story) (M : Timed P H R) (b : 1 ≤ Δ P) where
    pub ok_before : (p t : ℕ) → p < n P → L.Ok p (reading R p t) (before H R p t)
    unfolding before
    ok_before p zero h = L.ok_fresh p (reading R p zero) h
    ok_before p (suc t) h = L.ok_later p (reading R p t) (reading R p (suc t)) _ (M.steady p t)
        (run_ok p (reading R p t) (ticked H R p t) (calls_at R p t) (L.ok_tick p (reading R p t) (room_at R p t) (before H R p t) (ok_before p t h)))

    pub ok_ticked : (p t : ℕ) → p < n P → L.Ok p (reading R p t) (ticked H R p t)
    ok_ticked p t h = L.ok_tick p (reading R p t) (room_at R p t) (before H R p t) (ok_before p t h)

    -- readings do not fall
    pub steadily : (p t u : ℕ) → t ≤ u → reading R p t ≤ reading R p u
    steadily p t zero h = subst (λ z. reading R p z ≤ reading R p zero) {x = zero} {y = t} (omega (arith, h)) (omega arith)
    steadily p t (suc u) h = go (λ l. steadily p t u l) (dec_le t u)
      where
        go : (t ≤ u → reading R p t ≤ reading R p u) → Dec (t ≤ u) → reading R p t ≤ reading R p (suc u)
        go ih (yes l) = let a = ih l in let c = M.steady p u in omega (arith, a, c)
        go ih (no n) = subst (λ z. reading R p z ≤ reading R p (suc u)) {x = suc u} {y = t} (omega (arith, n, h)) (omega arith)

    pub held_after_lem : (p t : ℕ) (x : Carried) → Takes-at H R p t x → In x (H.held (before H R p (suc t)))
    unfolding before
    held_after_lem p t x h = some_held (reading R p t) (ticked H R p t) (calls_at R p t) x h

    pub held_on : (p t : ℕ) (x : Carried) → In x (H.held (ticked H R p t)) → In x (H.held (before H R p (suc t)))
    unfolding before
    held_on p t x h = run_keeps (reading R p t) (ticked H R p t) (calls_at R p t) x h

    -- what is held was taken
    pub held_taken : (p t : ℕ) (x : Carried) → In x (H.held (before H R p t)) → (u : ℕ) × (u < t) × Takes-at H R p u x
    unfolding before
    held_taken p zero x h = absurd (L.held_fresh p x h)
    held_taken p (suc t) x h = go (λ i. held_taken p t x i) (run_held (reading R p t) (ticked H R p t) (calls_at R p t) x h)
      where
        go : (In x (H.held (before H R p t)) → (u : ℕ) × (u < t) × Takes-at H R p u x)
            → In x (H.held (ticked H R p t)) ⊎ Takes-at H R p t x → (u : ℕ) × (u < suc t) × Takes-at H R p u x
        go ih (inl i) = let r = ih (L.tick_adds_none (reading R p t) (room_at R p t) (before H R p t) x i) in (r.0, (let l = r.1 in omega (arith, l)), r.2)
        go ih (inr k) = (t, omega arith, k)

    -- and stays till it is due
    pub held_until : (p t u : ℕ) (x : Carried) → p < n P → Takes-at H R p t x → t < u → reading R p u < x.stamp + Δ P → In x (H.held (ticked H R p u))
    held_until p t zero x hp k l h = absurd (not-suc-le-zero l)
    held_until p t (suc u) x hp k l h =
        L.tick_keeps p (reading R p (suc u)) (room_at R p (suc u)) (before H R p (suc u)) x (ok_before p (suc u) hp) (go (λ l' h'. held_until p t u x hp k l' h') (dec_le (suc t) u)) h
      where
        go : (t < u → reading R p u < x.stamp + Δ P → In x (H.held (ticked H R p u))) → Dec (suc t ≤ u) → In x (H.held (before H R p (suc u)))
        go ih (yes l') = held_on p u x (ih l' (let s = M.steady p u in omega (arith, s, h)))
        go ih (no ne) = subst (λ z. In x (H.held (before H R p (suc z)))) {x = t} {y = u} (omega (arith, ne, l)) (held_after_lem p t x k)

    pub held_before : (p t u : ℕ) (x : Carried) → p < n P → Takes-at H R p t x → t < suc u → reading R p u < x.stamp + Δ P → In x (H.held (before H R p (suc u)))
    held_before p t u x hp k l h = go (dec_le (suc t) u)
      where
        go : Dec (suc t ≤ u) → In x (H.held (before H R p (suc u)))
        go (yes l') = held_on p u x (held_until p t u x hp k l' h)
        go (no ne) = subst (λ z. In x (H.held (before H R p (suc z)))) {x = t} {y = u} (omega (arith, ne, l)) (held_after_lem p t x k)

    pub taken_time : (p t : ℕ) (x : Carried) → p < n P → Takes-at H R p t x → reading R p t < x.stamp + Δ P
    taken_time p t x h k =
        let r = pick (λ s c. Takes (H.call (reading R p t) s c) x) p (reading R p t) (ticked H R p t) (calls_at R p t) (ok_ticked p t h) k in
        take_time b p (reading R p t) r.0 r.1 x r.2 r.3

    pub starts_taken : (p t : ℕ) (x : Carried) → p < n P → Starts-at H R p t x → Takes-at H R p t x
    starts_taken p t x h = some_ok _ _ p (reading R p t) (begun_takes p (reading R p t) x) (ticked H R p t) (calls_at R p t) (ok_ticked p t h)

    pub sent_taken : (p t : ℕ) (c : Copy) (k : ℕ) → Sends-at H R p t c k → Takes-at H R p t c.what
    sent_taken p t c k h = some_map H _ _ (λ s d i. sends_takes (H.call (reading R p t) s d) c k i) (reading R p t) (ticked H R p t) (calls_at R p t) h

    -- a copy that is sent has hop 0
    pub sent_plain : (p t : ℕ) (c : Copy) (k : ℕ) → p < n P → Sends-at H R p t c k → c.hop ≡ 0
    sent_plain p t c k h i =
        let r = pick (λ s d. Sends (H.call (reading R p t) s d) c k) p (reading R p t) (ticked H R p t) (calls_at R p t) (ok_ticked p t h) i in
        B.sent_hop p (reading R p t) r.0 r.1 c k r.2 r.3

    -- what is known of an order that was started
    pub record Started (p U : ℕ) (x : Carried) : Type 0 where
      pub stamp_is : x.stamp ≡ U
      pub source_is : x.source ≡ p
      pub in_range_lem : U ≤ largest_stamp
      pub share : share_fits x.order ≡ true

    start_facts : (p U : ℕ) (s : H.State) (c : Call) (x : Carried) → L.Ok p U s → Begun p U x s c → Started p U x
    start_facts p U s (start o) x ok h =
        let r = L.take_start p U s o (record { stamp = U; source = p; order = o }) ok (L.start_takes p U s o ok h.1) in
        record {
          stamp_is = ap (λ (z : Carried). z.stamp) h.0;
          source_is = ap (λ (z : Carried). z.source) h.0;
          in_range_lem = r.1;
          share = ap (λ (z : Carried). share_fits z.order) h.0 ∙ r.2;
        }
    start_facts p U s (receive k d) x ok h = absurd h.0

    pub started_facts : (p t : ℕ) (x : Carried) → p < n P → Starts-at H R p t x → Started p (reading R p t) x
    started_facts p t x h k =
        let r = pick (Begun p (reading R p t) x) p (reading R p t) (ticked H R p t) (calls_at R p t) (ok_ticked p t h) k in
        start_facts p (reading R p t) r.0 r.1 x r.2 r.3

    -- every tick has the room that it needs
    pub roomy_tick : (p t : ℕ) → p < n P → H.lent (reading R p t) (room_at R p t) (before H R p t)
    roomy_tick p t h = go (leb t R.end) refl
      where
        go : (c : Bool) → leb t R.end ≡ c → H.lent (reading R p t) (cond c (R.room p t) 512) (before H R p t)
        go true e = M.room p t h (leb-true t R.end e)
        go false e = L.lent_enough p (reading R p t) (before H R p t) (ok_before p t h)

    -- what is held after the calls of a tick is not due at that tick
    pub not_due : (p t : ℕ) (x : Carried) → p < n P → reading R p t ≤ largest_reading → In x (H.held (before H R p (suc t))) → reading R p t < x.stamp + Δ P
    unfolding before
    not_due p t x h m i = go (run_held (reading R p t) (ticked H R p t) (calls_at R p t) x i)
      where
        go : In x (H.held (ticked H R p t)) ⊎ Takes-at H R p t x → reading R p t < x.stamp + Δ P
        go (inl j) = L.tick_clears p (reading R p t) (room_at R p t) (before H R p t) x (ok_before p t h) m (roomy_tick p t h) j
        go (inr k) = taken_time p t x h k
