-- A run that is given as data: whether it keeps the premises is found by computing, since hosts, ticks, links and calls are finitely many. Assumes nothing.
use mathlib.Core.Path.{◌≡◌, refl, sym, ap, ◌∙◌, subst}
use mathlib.Core.Logic.{◌⊎◌, inl, inr, ⊎_elim}
use mathlib.Core.Bool.{Bool, true, false, not, cond, ◌&&◌, ◌||◌, false≢true}
use mathlib.Core.List.{List, [], ◌∷◌}
use Prim.Native.Nat.{ℕ, suc, ◌+◌, ◌*◌, ◌^◌, ◌≤◌, ◌<◌}
use native.Mathlib.Omega.{arith}
use borrow.Author.Tests.{leb-true, ltb-true, eqb-true, eq-eqb, lt-ltb}
use lib.Count.{ones}
use lib.Dec.{leb, ltb, eqb}
use lib.ListN.{length}
use Rattle.lists.specs.Tests.{all_of}
use Rattle.lists.specs.Lists.{all, any}
use Rattle.lists.specs.Members.{In}
use Rattle.lists.specs.Searches.{some, each}
use Rattle.lists.proofs.Bools.{and_left_lem, and_right, or_true_left, or_true_right, or_cases}
use Rattle.lists.proofs.Listed.{all_member, some_member}
use Rattle.lists.proofs.SearchLaws.{each_true, some_at}
use Rattle.lists.proofs.TestLaws.{all_each}
use Rattle.orders.specs.Orders.{same_order}
use Rattle.orders.proofs.Laws.{same_equal}
use Rattle.orders.specs.declared.Order.{Order}
use Rattle.network.specs.Network.{n, m, π, L, δ, ε, link, has, FaultSet, Survivor}
use Rattle.network.specs.declared.Plan.{Plan}
use Rattle.host.specs.Tick.{due_of}
use Rattle.host.specs.declared.Host as state
use Rattle.diffusion.specs.Hosts.{Copy, Call, start, receive, Answer, refused, accepted, Host, after, Sends, IsReceive}
use Rattle.diffusion.specs.Ours.{hosts_of}
use Rattle.diffusion.specs.Run.{Story, reading, calls_at, Some, before, ticked, Sends-at, Handed-at, Joins, Arrives, Premises}

-- the test b is asked only where a passes
unfoldable pub implies : Bool → Bool → Bool
implies a b = cond a b true

implied : (a b : Bool) → implies a b ≡ true → a ≡ true → b ≡ true
unfolding implies
implied true b h e = h
implied false b h e = absurd (false≢true e)

-- ---- copies

copy : ℕ → ℕ → Order → ℕ → Copy
copy t s o h = record { what = record { stamp = t; source = s; order = o }; hop = h }

unfoldable pub same_copy : Copy → Copy → Bool
same_copy c d =
    eqb c.what.stamp d.what.stamp && (eqb c.what.source d.what.source && (same_order c.what.order d.what.order && eqb c.hop d.hop))

same_copy_lem : (c d : Copy) → same_copy c d ≡ true → c ≡ d
unfolding same_copy copy
same_copy_lem c d e =
    let h = and_right (eqb c.what.stamp d.what.stamp) _ e in
    let k = and_right (eqb c.what.source d.what.source) _ h in
    let stamps : c.what.stamp ≡ d.what.stamp = eqb-true _ _ (and_left_lem (eqb c.what.stamp d.what.stamp) _ e) in
    let sources : c.what.source ≡ d.what.source = eqb-true _ _ (and_left_lem (eqb c.what.source d.what.source) _ h) in
    let orders : c.what.order ≡ d.what.order = same_equal _ _ (and_left_lem (same_order c.what.order d.what.order) _ k) in
    let hops : c.hop ≡ d.hop = eqb-true _ _ (and_right (same_order c.what.order d.what.order) _ k) in
    let joined : copy c.what.stamp c.what.source c.what.order c.hop ≡ copy d.what.stamp d.what.source d.what.order d.hop = rw (stamps, sources, orders, hops) in
    joined

-- a call hands over this copy on link k
unfoldable pub hands : ℕ → Copy → Call → Bool
hands k c (start o) = false
hands k c (receive j d) = eqb k j && same_copy c d

hands_is : (k : ℕ) (c : Copy) (d : Call) → hands k c d ≡ true → IsReceive k c d
unfolding hands
hands_is k c (start o) e = absurd (false≢true e)
hands_is k c (receive j d) e = (eqb-true k j (and_left_lem (eqb k j) (same_copy c d) e), same_copy_lem c d (and_right (eqb k j) (same_copy c d) e))

-- what an answer sends, with the links that it goes on
abbrev pub Sent : Type 0
Sent = Copy × (ℕ → Bool)

unfoldable pub sent_by : {S : Type 0} → Answer S → List Sent → List Sent
sent_by (refused r) l = l
sent_by (accepted s y on hop) l = (record { what = y; hop = hop }, on) ∷ l

-- ---- lists of calls

module _ (H : Host) where
  unfoldable pub sent : ℕ → H.State → List Call → List Sent
  sent U s [] = []
  sent U s (c ∷ cs) = sent_by (H.call U s c) (sent U (after (H.call U s c) s) cs)

  -- what is sent is listed, and what is listed is sent
  sent_listed : (U : ℕ) (s : H.State) (cs : List Call) (c : Copy) (k : ℕ) → Some H (λ s d. Sends (H.call U s d) c k) U s cs
      → (e : Sent) × In e (sent U s cs) × (c ≡ e.0) × (e.1 k ≡ true)
  unfolding Some sent sent_by
  sent_listed U s [] c k h = absurd h
  sent_listed U s (d ∷ cs) c k (inl h) = go (H.call U s d) h
    where
      go : (a : Answer H.State) → Sends a c k → (e : Sent) × In e (sent_by a (sent U (after (H.call U s d) s) cs)) × (c ≡ e.0) × (e.1 k ≡ true)
      go (refused r) h = absurd h
      go (accepted s' y on hop) h = ((record { what = y; hop = hop }, on), inl refl, h.0, h.1)
  sent_listed U s (d ∷ cs) c k (inr h) = let r = sent_listed U (after (H.call U s d) s) cs c k h in (r.0, go (H.call U s d) r.0 r.1, r.2, r.3)
    where
      go : (a : Answer H.State) (e : Sent) → In e (sent U (after (H.call U s d) s) cs) → In e (sent_by a (sent U (after (H.call U s d) s) cs))
      go (refused r) e i = i
      go (accepted s' y on hop) e i = inr i

  listed_sent : (U : ℕ) (s : H.State) (cs : List Call) (c : Copy) (k : ℕ) (e : Sent) → In e (sent U s cs) → c ≡ e.0 → e.1 k ≡ true
      → Some H (λ s d. Sends (H.call U s d) c k) U s cs
  unfolding Some sent sent_by
  listed_sent U s [] c k e i q on = absurd i
  listed_sent U s (d ∷ cs) c k e i q on = go (H.call U s d) i (λ j. listed_sent U (after (H.call U s d) s) cs c k e j q on)
    where
      go : (a : Answer H.State) → In e (sent_by a (sent U (after (H.call U s d) s) cs))
          → (In e (sent U (after (H.call U s d) s) cs) → Some H (λ s d. Sends (H.call U s d) c k) U (after (H.call U s d) s) cs)
          → Sends a c k ⊎ Some H (λ s d. Sends (H.call U s d) c k) U (after (H.call U s d) s) cs
      go (refused r) i f = inr (f i)
      go (accepted s' y on' hop) (inl z) f = inl (q ∙ ap (λ (w : Sent). w.0) z, sym (ap (λ (w : Sent). w.1 k) z) ∙ on)
      go (accepted s' y on' hop) (inr i) f = inr (f i)

  listed_handed : (U : ℕ) (s : H.State) (cs : List Call) (k : ℕ) (c : Copy) → any (hands k c) cs ≡ true → Some H (λ s d. IsReceive k c d) U s cs
  unfolding Some
  listed_handed U s [] k c e = absurd (false≢true e)
  listed_handed U s (d ∷ cs) k c e =
      ⊎_elim (λ h. inl (hands_is k c d h)) (λ h. inr (listed_handed U (after (H.call U s d) s) cs k c h)) (or_cases (hands k c d) (any (hands k c) cs) e)

  -- a test of every copy that is handed over
  unfoldable pub each_handed : (ℕ → Copy → Bool) → List Call → Bool
  each_handed f [] = true
  each_handed f (start o ∷ cs) = each_handed f cs
  each_handed f (receive k c ∷ cs) = f k c && each_handed f cs

  each_handed_lem : (f : ℕ → Copy → Bool) (U : ℕ) (s : H.State) (cs : List Call) (k : ℕ) (c : Copy) → each_handed f cs ≡ true → Some H (λ s d. IsReceive k c d) U s cs → f k c ≡ true
  unfolding Some each_handed
  each_handed_lem f U s [] k c e h = absurd h
  each_handed_lem f U s (start o ∷ cs) k c e (inl h) = absurd h
  each_handed_lem f U s (start o ∷ cs) k c e (inr h) = each_handed_lem f U (after (H.call U s (start o)) s) cs k c e h
  each_handed_lem f U s (receive j d ∷ cs) k c e (inl h) =
      subst (λ (i : ℕ). f i c ≡ true) (sym h.0) (subst (λ (w : Copy). f j w ≡ true) (sym h.1) (and_left_lem (f j d) (each_handed f cs) e))
  each_handed_lem f U s (receive j d ∷ cs) k c e (inr h) =
      each_handed_lem f U (after (H.call U s (receive j d)) s) cs k c (and_right (f j d) (each_handed f cs) e) h

-- ---- links

unfoldable pub joins : Plan → ℕ → ℕ → ℕ → Bool
joins P k p q = ltb k (m P) && (eqb (link P k).a p && eqb (link P k).b q || eqb (link P k).a q && eqb (link P k).b p)

joins_is : (P : Plan) (k p q : ℕ) → joins P k p q ≡ true → Joins P k p q
unfolding joins
joins_is P k p q e = (ltb-true k (m P) (and_left_lem (ltb k (m P)) _ e), go (or_cases (eqb (link P k).a p && eqb (link P k).b q) _ (and_right (ltb k (m P)) _ e)))
  where
    both : (x y : ℕ) → (eqb (link P k).a x && eqb (link P k).b y) ≡ true → ((link P k).a ≡ x) × ((link P k).b ≡ y)
    both x y h = (eqb-true _ _ (and_left_lem (eqb (link P k).a x) _ h), eqb-true _ _ (and_right (eqb (link P k).a x) _ h))

    go : ((eqb (link P k).a p && eqb (link P k).b q) ≡ true) ⊎ ((eqb (link P k).a q && eqb (link P k).b p) ≡ true)
        → (((link P k).a ≡ p) × ((link P k).b ≡ q)) ⊎ (((link P k).a ≡ q) × ((link P k).b ≡ p))
    go (inl h) = inl (both p q h)
    go (inr h) = inr (both q p h)

is_joins : (P : Plan) (k p q : ℕ) → Joins P k p q → joins P k p q ≡ true
unfolding joins
is_joins P k p q j = rw (lt-ltb k (m P) j.0, go j.1)
  where
    both : (x y : ℕ) → ((link P k).a ≡ x) × ((link P k).b ≡ y) → (eqb (link P k).a x && eqb (link P k).b y) ≡ true
    both x y h = rw (eq-eqb _ _ h.0, eq-eqb _ _ h.1)

    go : (((link P k).a ≡ p) × ((link P k).b ≡ q)) ⊎ (((link P k).a ≡ q) × ((link P k).b ≡ p))
        → (eqb (link P k).a p && eqb (link P k).b q || eqb (link P k).a q && eqb (link P k).b p) ≡ true
    go (inl h) = or_true_left (eqb (link P k).a p && eqb (link P k).b q) (eqb (link P k).a q && eqb (link P k).b p) (both p q h)
    go (inr h) = or_true_right (eqb (link P k).a p && eqb (link P k).b q) (eqb (link P k).a q && eqb (link P k).b p) (both q p h)

-- ---- the tests

module _ (P : Plan) (H : Host) (R : Story) (roomy : ℕ → ℕ → H.State → Bool) where
  -- what host p sends at tick t
  unfoldable pub sent_at : ℕ → ℕ → List Sent
  sent_at p t = sent H (reading R p t) (ticked H R p t) (calls_at R p t)

  unfoldable pub fault_tests : List Bool
  fault_tests = ltb R.faults.hosts (2 ^ n P) ∷ ltb R.faults.links (2 ^ m P) ∷ leb (ones R.faults.hosts) (π P) ∷ leb (ones R.faults.links) (L P) ∷ []

  unfoldable pub close_test : Bool
  close_test = each (n P) (λ p. each (n P) (λ q. ltb (R.offset p) (R.offset q + ε P)))

  unfoldable pub room_test : Bool
  room_test = each (n P) (λ p. each (suc R.end) (λ t. roomy (reading R p t) (R.room p t) (before H R p t)))

  -- the copy that q is handed at tick t was sent
  unfoldable pub was_sent : ℕ → ℕ → ℕ → Copy → ℕ → ℕ → Bool
  was_sent q t k c p u = joins P k p q && (leb t (u + δ P) && any (λ e. same_copy c e.0 && e.1 k) (sent_at p u))

  unfoldable pub arrives_test : Bool
  arrives_test = each (n P) (λ q. each (suc R.end) (λ t. each_handed H (λ k c. some (n P) (λ p. some t (was_sent q t k c p))) (calls_at R q t)))

  -- the copy that is sent over link k at tick t is handed to q, or the run ends before it must
  unfoldable pub is_handed : ℕ → ℕ → ℕ → Copy → Bool
  is_handed t k q c = leb (suc R.end) (t + δ P) || some (suc (t + δ P)) (λ v. ltb t v && any (hands k c) (calls_at R q v))

  unfoldable pub unfaulty : ℕ → ℕ → ℕ → Bool
  unfaulty p k q = joins P k p q && (not (has R.faults.hosts p) && (not (has R.faults.links k) && not (has R.faults.hosts q)))

  unfoldable pub kept : ℕ → ℕ → ℕ → ℕ → Bool
  kept p t k q = implies (unfaulty p k q) (all (λ e. implies (e.1 k) (is_handed t k q e.0)) (sent_at p t))

  unfoldable pub no_loss_test : Bool
  no_loss_test = each (n P) (λ p. each (suc R.end) (λ t. each (m P) (λ k. each (n P) (kept p t k))))

  unfoldable pub keeps_others : Bool
  keeps_others = all_of (all_of fault_tests ∷ leb 1 (δ P) ∷ close_test ∷ room_test ∷ no_loss_test ∷ [])

  unfoldable pub keeps_premises : Bool
  keeps_premises = keeps_others && arrives_test

  -- past the last tick nothing happens
  in_time : (Q : H.State → Call → Type 0) (p t : ℕ) → Some H Q (reading R p t) (ticked H R p t) (calls_at R p t) → t ≤ R.end
  unfolding Some
  in_time Q p t h = go (leb t R.end) refl h
    where
      go : (b : Bool) → leb t R.end ≡ b → Some H Q (reading R p t) (ticked H R p t) (cond b (R.calls p t) []) → t ≤ R.end
      go true e h = leb-true t R.end e
      go false e h = absurd h

  faults_are : all_of fault_tests ≡ true → FaultSet P R.faults
  unfolding fault_tests
  faults_are e =
      let t = all_each _ e in
      record { hosts = ltb-true _ _ t.0; links = ltb-true _ _ t.1.0; few_hosts = leb-true _ _ t.1.1.0; few_links = leb-true _ _ t.1.1.1.0 }

  arrives : arrives_test ≡ true → Arrives P H R
  unfolding arrives_test was_sent sent_at
  arrives e q t k c hq h =
      let l = in_time (λ s d. IsReceive k c d) q t h in
      let at = each_true _ (suc R.end) (each_true _ (n P) e q hq) t (omega arith) in
      let a = some_at _ (n P) (each_handed_lem H _ (reading R q t) (ticked H R q t) (calls_at R q t) k c at h) in
      let b = some_at _ t a.2 in
      let r = and_right (joins P k a.0 q) _ b.2 in
      let z = some_member _ (sent_at a.0 b.0) (and_right (leb t (b.0 + δ P)) _ r) in (
        a.0,
        b.0,
        joins_is P k a.0 q (and_left_lem (joins P k a.0 q) _ b.2),
        b.1,
        leb-true _ _ (and_left_lem (leb t (b.0 + δ P)) _ r),
        listed_sent H (reading R a.0 b.0) (ticked H R a.0 b.0) (calls_at R a.0 b.0) c k z.0 z.1
            (same_copy_lem c z.0.0 (and_left_lem (same_copy c z.0.0) (z.0.1 k) z.2)) (and_right (same_copy c z.0.0) (z.0.1 k) z.2),
      )

  handed_in_time : (t k q : ℕ) (c : Copy) → 1 ≤ δ P → is_handed t k q c ≡ true → (v : ℕ) × (t < v) × (v ≤ t + δ P) × (v ≤ R.end → Handed-at H R q v k c)
  unfolding is_handed
  handed_in_time t k q c pos e = go (or_cases (leb (suc R.end) (t + δ P)) _ e)
    where
      go : (leb (suc R.end) (t + δ P) ≡ true) ⊎ (some (suc (t + δ P)) (λ v. ltb t v && any (hands k c) (calls_at R q v)) ≡ true)
          → (v : ℕ) × (t < v) × (v ≤ t + δ P) × (v ≤ R.end → Handed-at H R q v k c)
      go (inl h) = let past : R.end < t + δ P = leb-true _ _ h in (t + δ P, omega arith, omega arith, λ l. absurd (omega arith))
      go (inr h) =
          let s = some_at _ (suc (t + δ P)) h in
          let l : s.0 < suc (t + δ P) = s.1 in (
            s.0,
            ltb-true _ _ (and_left_lem (ltb t s.0) _ s.2),
            omega arith,
            λ w. listed_handed H (reading R q s.0) (ticked H R q s.0) (calls_at R q s.0) k c (and_right (ltb t s.0) _ s.2),
          )

  no_loss : 1 ≤ δ P → no_loss_test ≡ true → (p t k q : ℕ) (c : Copy) → Joins P k p q → Survivor P R.faults p → has R.faults.links k ≡ false → Survivor P R.faults q → Sends-at H R p t c k
      → (v : ℕ) × (t < v) × (v ≤ t + δ P) × (v ≤ R.end → Handed-at H R q v k c)
  unfolding no_loss_test kept unfaulty sent_at
  no_loss pos e p t k q c j sp ok sq h =
      let l = in_time (λ s d. Sends (H.call (reading R p t) s d) c k) p t h in
      let at = each_true _ (n P) (each_true _ (m P) (each_true _ (suc R.end) (each_true _ (n P) e p sp.host) t (omega arith)) k j.0) q sq.host in
      let fine : unfaulty p k q ≡ true = rw (is_joins P k p q j, sp.well, ok, sq.well) in
      let every = implied (unfaulty p k q) _ at fine in
      let z = sent_listed H (reading R p t) (ticked H R p t) (calls_at R p t) c k h in
      let one = implied (z.0.1 k) _ (all_member _ (sent_at p t) every z.0 z.1) z.3 in
      handed_in_time t k q c pos (subst (λ (w : Copy). is_handed t k q w ≡ true) (sym z.2) one)

  module _ (lends : (U room : ℕ) (s : H.State) → roomy U room s ≡ true → H.lent U room s) where
    -- all but that nothing else arrives
    pub decided_but : keeps_others ≡ true → Arrives P H R → Premises P H R
    unfolding keeps_others close_test room_test
    decided_but e sent =
        let t = all_each _ e in
        record {
          faults = faults_are t.0;
          close = λ p q hp hq. ltb-true _ _ (each_true _ (n P) (each_true _ (n P) t.1.1.0 p hp) q hq);
          room = λ p u hp l. lends (reading R p u) (R.room p u) (before H R p u) (each_true _ (suc R.end) (each_true _ (n P) t.1.1.1.0 p hp) u (omega arith));
          arrives = sent;
          no_loss = no_loss (leb-true _ _ t.1.0) t.1.1.1.1.0;
        }

    pub decided : keeps_premises ≡ true → Premises P H R
    unfolding keeps_premises
    decided e = decided_but (and_left_lem keeps_others arrives_test e) (arrives (and_right keeps_others arrives_test e))

-- ---- hosts that tick as ours

-- the room is enough for all that is due
unfoldable pub roomy : ℕ → ℕ → state.Host → Bool
roomy u room h = leb (16 * length (due_of h u)) room

module _ (P : Plan) (first : ℕ → state.Host) (call : ℕ → state.Host → Call → Answer state.Host) (R : Story) where
  unfoldable pub keeps : Bool
  keeps = keeps_premises P (hosts_of first call) R roomy

  pub within_premises : keeps ≡ true → Premises P (hosts_of first call) R
  unfolding keeps roomy
  within_premises e = decided P (hosts_of first call) R roomy (λ u room h q. leb-true (16 * length (due_of h u)) room q) e

  -- but for what arrives
  pub within_but : keeps_others P (hosts_of first call) R roomy ≡ true → Arrives P (hosts_of first call) R → Premises P (hosts_of first call) R
  unfolding roomy
  within_but = decided_but P (hosts_of first call) R roomy (λ u room h q. leb-true (16 * length (due_of h u)) room q)
