-- Each step of a run keeps that whoever has sent a copy has taken its order; so a copy is sent to a place that is free. Assumes nothing.
use mathlib.Core.Path.{◌≡◌, refl, sym, ap, subst, ◌∙◌}
use mathlib.Core.Logic.{◌⊎◌, inl, inr}
use mathlib.Core.Bool.{Bool, true, false, cond, ◌&&◌, not, false≢true}
use Prim.Native.Nat.{ℕ, zero, suc, ◌+◌, ◌*◌, ◌%◌, ◌≤◌, ◌<◌}
use native.Mathlib.Omega.{arith}
use borrow.Author.Tests.{eqb-true}
use lib.Dec.{ltb, eqb}
use lib.ListN.{get_or, length-replicate}
use Rattle.lists.specs.Lists.{insert}
use Rattle.lists.specs.Members.{In}
use Rattle.lists.proofs.Bools.{and_left_lem, and_right}
use Rattle.lists.proofs.MemberLaws.{in_left, in_right, in_append}
use Rattle.lists.proofs.Listed.{insert_new, insert_old}
use Rattle.clock.specs.declared.Reading.{Reading}
use Rattle.clock.specs.declared.Tick.{Tick}
use Rattle.orders.specs.declared.Order.{Order}
use Rattle.network.specs.Network.{n, m, link, has}
use Rattle.network.specs.declared.Plan.{Plan}
use Rattle.network.proofs.Bits.{has_none}
use Rattle.host.specs.Answers.{Said, said_by}
use Rattle.host.specs.Make.{cleared}
use Rattle.host.specs.OwnLinks.{ends, ends_but}
use Rattle.host.specs.Start as starts
use Rattle.host.specs.Receive.{relay_links, relay_hop}
use Rattle.host.specs.State.{held_of, before}
use Rattle.host.specs.Calls.{Call, refusal, becomes, after}
use Rattle.host.specs.Calls as calls
use Rattle.host.specs.declared.Held.{Held}
use Rattle.host.proofs.Fresh.{cleared_link}
use Rattle.host.proofs.Outcomes.{held_is}
use Rattle.host.proofs.Sets.{set_has}
use Rattle.schedule.specs.declared.Schedule.{Schedule}
use Rattle.schedule.proofs.Laws.{Within}
use Rattle.engine.proofs.Runs.{playable, link_low, get_or_blank}
use Rattle.engine.specs.declared.Station.{Station}
use Rattle.engine.specs.declared.World.{World}
use Rattle.engine.specs.Turns.{in_turn}
use Rattle.engine.specs.Parts.{no_tick, no_station, later, clock, start, order, copy_from, start_of, link_of, receiver, sender}
use Rattle.engine.specs.Run.{delay, ticked, tick_one, tick_all, station, handed, hand, arrives, arrive_one, told, tell, start_one, arrived, started, play, opening, world}
use Rattle.engine.specs.Inside.{Playable}
use Rattle.engine.proofs.Turns.{keeps}
use Rattle.engine.proofs.Kept.{gone, taken, Kept}
use Rattle.engine.proofs.Steps.{hand_untaken, tell_untaken, tick_taken}
use Rattle.engine.proofs.Worlds.{Good, tick_one_good, tick_good, arrive_good, start_good, open_good}
use Rattle.engine.proofs.Posted.{Posted, changed, stands, acted, unsent}

-- ---- a link in what a call answers is the host's own, and the call was not refused

pub said_has : (r links hop l : ℕ) → has (said_by r links hop).links l ≡ true → (r ≡ 0) × (has links l ≡ true)
said_has r links hop l e = go (eqb r 0) refl e
  where
    go : (b : Bool) → eqb r 0 ≡ b → has (cond {A = Said} b (record { refusal = 0; links = links; hop = hop }) (record { refusal = r; links = 0; hop = 0 })).links l ≡ true
        → (r ≡ 0) × (has links l ≡ true)
    go true f h = (eqb-true r 0 f, h)
    go false f h = absurd (false≢true (sym (has_none l) ∙ h))

module _ (s : Schedule) (q : ℕ) (a : Station) (k : Kept s q a) where
  -- the host's plan is the schedule's, and its number is q
  pub own_end : (l : ℕ) → l < m s.plan → ends a.host.plan a.host.own l ≡ true → ends s.plan q l ≡ true
  own_end l h e =
      let one : ends a.host.plan a.host.own l ≡ ends (cleared s.plan) q l = ap (λ (p : Plan). ends p a.host.own l) k.plan ∙ ap (λ (i : ℕ). ends (cleared s.plan) i l) k.own in
      let same = cleared_link s.plan l h in
      let two : ends (cleared s.plan) q l ≡ ends s.plan q l = cc same in
      sym two ∙ sym one ∙ e

  -- what is taken stays taken, and a call that is not refused takes its order
  module _ (u : Reading) where
    held_more : (c : Call) (x : Held) → (refusal a.host u.0 c ≡ 0 → held_of (after a.host u c) ≡ insert before x (held_of a.host))
        → (y : Held) → In y (taken a) → In y (taken (record { host = after a.host u c; log = a.log }))
    held_more c x f y i = go (in_append (gone a) (held_of a.host) y i)
      where
        deeper : (b : Bool) → eqb (refusal a.host u.0 c) 0 ≡ b → In y (held_of a.host) → In y (held_of (after a.host u c))
        deeper true e j = rw (f (eqb-true _ _ e)) (insert_old before x (held_of a.host) y j)
        deeper false e j = let same : after a.host u c ≡ a.host = ap (λ (t : Bool). cond t (becomes a.host u c) a.host) e in rw same j

        go : In y (gone a) ⊎ In y (held_of a.host) → In y (taken (record { host = after a.host u c; log = a.log }))
        go (inl j) = in_left (gone a) (held_of (after a.host u c)) y j
        go (inr j) = in_right (gone a) (held_of (after a.host u c)) y (deeper (eqb (refusal a.host u.0 c) 0) refl j)

    held_new : (c : Call) (x : Held) → held_of (after a.host u c) ≡ insert before x (held_of a.host) → In x (taken (record { host = after a.host u c; log = a.log }))
    held_new c x e = in_right (gone a) (held_of (after a.host u c)) x (rw e (insert_new before x (held_of a.host)))

    -- a copy handed over link l
    module _ (l j : ℕ) where
      abbrev copy : Call
      copy = calls.receive l 0 (order s j)

      pub hand_link : (i : ℕ) → i < m s.plan → has (said_by (refusal a.host u.0 copy) (relay_links a.host l 0) (relay_hop a.host.rules 0)).links i ≡ true
          → (refusal a.host u.0 copy ≡ 0) × (ends s.plan q i ≡ true)
      hand_link i h e =
          let r = said_has (refusal a.host u.0 copy) (relay_links a.host l 0) (relay_hop a.host.rules 0) i e in
          let f : (ltb i (m a.host.plan) && ends_but a.host.plan a.host.own l i) ≡ true = sym (set_has (m a.host.plan) (ends_but a.host.plan a.host.own l) i) ∙ r.1 in
          let b : ends_but a.host.plan a.host.own l i ≡ true = and_right (ltb i (m a.host.plan)) (ends_but a.host.plan a.host.own l i) f in
          (r.0, own_end i h (and_left_lem (ends a.host.plan a.host.own i) (not (eqb i l)) b))

    -- an order told
    module _ (o : Order) where
      pub tell_link : (i : ℕ) → i < m s.plan → has (starts.start_says a.host u.0 o).links i ≡ true → (refusal a.host u.0 (calls.start o) ≡ 0) × (ends s.plan q i ≡ true)
      tell_link i h e =
          let r = said_has (refusal a.host u.0 (calls.start o)) _ _ i e in
          let f : (ltb i (m a.host.plan) && ends a.host.plan a.host.own i) ≡ true = sym (set_has (m a.host.plan) (ends a.host.plan a.host.own) i) ∙ r.1 in
          (r.0, own_end i h (and_right (ltb i (m a.host.plan)) (ends a.host.plan a.host.own i) f))

-- ---- the steps

module _ (s : Schedule) (z : Playable s) where
  -- a copy handed to a host of the plan
  pub hand_posted : (t : Tick) (c q : ℕ) (w : World) → start_of c < 16 → q < n s.plan → Good s w.stations → Posted s w → Posted s (hand s t c q w)
  hand_posted t c q w few low g p =
      let a : Station = station w q in
      let k = g.hosts q low in
      let u = clock s t q in
      let x = order s (start_of c) in
      let call : Call = calls.receive (link_of c) 0 x in
      acted s z t (start_of c) q (handed s t c q w).links w (after a.host u call) w.refusals few (let most = z.n_most in omega (arith, g.long))
      (held_more s q a k u call x (held_is a.host u call))
      (λ l h e. let r = hand_link s q a k u (link_of c) (start_of c) l h e in (r.1, held_new s q a k u call x (held_is a.host u call r.0))) p

  -- and where it is not refused, each place that it sends to is free
  pub hand_free : (t : Tick) (c q : ℕ) (w : World) → q < n s.plan → Good s w.stations → Posted s w
      → (l : ℕ) → l < m s.plan → has (handed s t c q w).links l ≡ true → (get_or w.post.arrivals (copy_from s.plan (start_of c) q l) no_tick).0 ≡ 0
  hand_free t c q w low g p l h e =
      let a : Station = station w q in
      let k = g.hosts q low in
      let r = hand_link s q a k (clock s t q) (link_of c) (start_of c) l h e in
      unsent s z (start_of c) q l w h r.1 (hand_untaken s q a k (clock s t q) (link_of c) (order s (start_of c)) r.0) p

  -- an order told to the host of start k, at its tick
  module _ (t : Tick) (j : ℕ) (w : World) (at : (start s j).tick.0 ≡ t.0) (low : (start s j).host < n s.plan) (g : Good s w.stations) where
    abbrev q : ℕ
    q = (start s j).host

    abbrev a : Station
    a = station w q

    abbrev o : Order
    o = (start s j).order

    pub started_is : starts.start_of a.host (clock s t q) o ≡ order s j
    started_is = let own = (g.hosts q low).own in cc (sym at, own)

    pub tell_posted : j < 16 → Posted s w → Posted s (tell s t j q o w)
    tell_posted few p =
        let k = g.hosts q low in
        let u = clock s t q in
        let x = starts.start_of a.host u o in
        let call : Call = calls.start o in
        acted s z t j q (told s t q o w).links w (after a.host u call) _ few (let most = z.n_most in omega (arith, g.long))
        (held_more s q a k u call x (held_is a.host u call))
        (λ l h e. let r = tell_link s q a k u o l h e in (r.1, subst (λ (y : Held). In y (taken (record { host = after a.host u call; log = a.log }))) started_is (held_new s q a k u call x (held_is a.host u call r.0)))) p

    pub tell_free : Posted s w → (l : ℕ) → l < m s.plan → has (told s t q o w).links l ≡ true → (get_or w.post.arrivals (copy_from s.plan j q l) no_tick).0 ≡ 0
    tell_free p l h e =
        let k = g.hosts q low in
        let r = tell_link s q a k (clock s t q) o l h e in
        unsent s z j q l w h r.1 (rw started_is at (tell_untaken s q a k (clock s t q) o r.0)) p

-- ---- at every moment of a run

module _ (s : Schedule) (v : Within s) where
  abbrev z : Playable s
  z = playable s v

  -- the receiver of a copy is one of the plan's hosts, whatever its place
  pub receiver_low : (c : ℕ) → receiver s.plan c < n s.plan
  receiver_low c = go (eqb (c % 2) 0)
    where
      go : (b : Bool) → cond b (link s.plan (link_of c)).b (link s.plan (link_of c)).a < n s.plan
      go true = (link_low s v (link_of c)).1
      go false = (link_low s v (link_of c)).0

  tick_posted : (t : Tick) (w : World) → Good s w.stations → Posted s w → Posted s (tick_all s t w)
  tick_posted t w g p =
      let all : Good s (tick_all s t w).stations × Posted s (tick_all s t w) =
      keeps (tick_one s t) (λ i l. Good s l × Posted s (record { stations = l; post = w.post; refusals = w.refusals })) (n s.plan) w.stations (g, p)
      (λ i l h q. (
        tick_one_good s z t i l h q.0,
        record {
          long = q.1.long;
          took = λ c f. stands l i (ticked (clock s t i) (get_or l i no_station)) (let most = z.n_most in omega (arith, q.0.long))
              (λ x j. rw (tick_taken s i (get_or l i no_station) (q.0.hosts i h) (clock s t i)) j) (sender s.plan c) (order s (start_of c)) (q.1.took c f);
        },
      )) in
      all.1

  abbrev pub Both : World → Type 0
  Both w = Good s w.stations × Posted s w

  pub arrive_both : (t : Tick) (c : ℕ) (w : World) → c < 24 * s.start_count → Both w → Both (arrive_one s t c w)
  arrive_both t c w few b = (arrive_good s z t c w few b.0, go (arrives t c w))
    where
      go : (e : Bool) → Posted s (cond e (hand s t c (receiver s.plan c) w) w)
      go true = hand_posted s z t c (receiver s.plan c) w (let most = z.few in omega arith) (receiver_low c) b.0 b.1
      go false = b.1

  pub start_both : (t : Tick) (k : ℕ) (w : World) → k < s.start_count → Both w → Both (start_one s t k w)
  start_both t k w few b = (start_good s z t k w few b.0, go (eqb (start s k).tick.0 t.0) refl)
    where
      go : (e : Bool) → eqb (start s k).tick.0 t.0 ≡ e → Posted s (cond e (tell s t k (start s k).host (start s k).order w) w)
      go true e = tell_posted s z t k w (eqb-true _ _ e) (v.start_host_lem k few) b.0 (let most = z.few in omega arith) b.1
      go false e = b.1

  pub ticked_both : (t : Tick) (w : World) → Both w → Both (tick_all s t w)
  ticked_both t w b = (tick_good s z t w.stations b.0, tick_posted t w b.0 b.1)

  pub arrived_both : (t : Tick) (c : ℕ) (w : World) → c ≤ 24 * s.start_count → Both w → Both (arrived s t c w)
  arrived_both t c w few b = keeps (arrive_one s t) (λ i x. Both x) c (tick_all s t w) (ticked_both t w b) (λ i x h q. arrive_both t i x (omega arith) q)

  pub started_both : (t : Tick) (k : ℕ) (w : World) → k ≤ s.start_count → Both w → Both (started s t k w)
  started_both t k w few b =
      keeps (start_one s t) (λ i x. Both x) k (arrived s t (24 * s.start_count) w) (arrived_both t (24 * s.start_count) w (omega arith) b)
      (λ i x h q. start_both t i x (omega arith) q)

  open_posted : Posted s (opening s)
  unfolding opening
  open_posted = record { long = length-replicate 384 no_tick; took = λ c f. absurd (f (ap (λ (t : Tick). t.0) (get_or_blank 384 c no_tick))) }

  pub world_both : (t : ℕ) → Both (world s t)
  unfolding play
  world_both t = keeps (play s) (λ i x. Both x) t (opening s) (open_good s z, open_posted) (λ i x h q. started_both (record { 0 = i }) s.start_count x (omega arith) q)

  -- "nothing is dropped": in a run, each place that a copy is sent to is free
  pub copies_free : (t c l : ℕ) → c < 24 * s.start_count → l < m s.plan
      → has (handed s (record { 0 = t }) c (receiver s.plan c) (arrived s (record { 0 = t }) c (world s t))).links l ≡ true
      → (get_or (arrived s (record { 0 = t }) c (world s t)).post.arrivals (copy_from s.plan (start_of c) (receiver s.plan c) l) no_tick).0 ≡ 0
  copies_free t c l few low e =
      let b = arrived_both (record { 0 = t }) c (world s t) (omega arith) (world_both t) in
      hand_free s z (record { 0 = t }) c (receiver s.plan c) (arrived s (record { 0 = t }) c (world s t)) (receiver_low c) b.0 b.1 l low e

  pub starts_free : (t k l : ℕ) → k < s.start_count → (start s k).tick.0 ≡ t → l < m s.plan
      → has (told s (record { 0 = t }) (start s k).host (start s k).order (started s (record { 0 = t }) k (world s t))).links l ≡ true
      → (get_or (started s (record { 0 = t }) k (world s t)).post.arrivals (copy_from s.plan k (start s k).host l) no_tick).0 ≡ 0
  starts_free t k l few at low e =
      let b = started_both (record { 0 = t }) k (world s t) (omega arith) (world_both t) in
      tell_free s z (record { 0 = t }) k (started s (record { 0 = t }) k (world s t)) at (v.start_host_lem k few) b.0 b.1 l low e

  -- ---- a copy under way stays as it is

  abbrev arrival_of : ℕ → World → Tick
  arrival_of i w = get_or w.post.arrivals i no_tick

  hand_stays : (t : Tick) (c : ℕ) (w : World) → c < 24 * s.start_count → Both w → (i : ℕ) → ((arrival_of i w).0 ≡ 0 → ⊥) → arrival_of i (hand s t c (receiver s.plan c) w) ≡ arrival_of i w
  hand_stays t c w few b i f =
      let q = receiver s.plan c in
      go ((changed s t (start_of c) q (handed s t c q w).links w.post (let most = z.few in omega arith) z.m_most b.1.long).1 i)
    where
      go : (arrival_of i (hand s t c (receiver s.plan c) w) ≡ arrival_of i w)
          ⊎ ((l : ℕ) × (l < m s.plan) × (has (handed s t c (receiver s.plan c) w).links l ≡ true) × (i ≡ copy_from s.plan (start_of c) (receiver s.plan c) l)
          × (arrival_of i (hand s t c (receiver s.plan c) w) ≡ later t (delay s i)) × (0 < delay s i))
          → arrival_of i (hand s t c (receiver s.plan c) w) ≡ arrival_of i w
      go (inl e) = e
      go (inr d) = absurd (f (ap (λ (j : ℕ). (arrival_of j w).0) d.3 ∙ hand_free s z t c (receiver s.plan c) w (receiver_low c) b.0 b.1 d.0 d.1 d.2))

  tell_stays : (t : Tick) (k : ℕ) (w : World) → k < s.start_count → (start s k).tick.0 ≡ t.0 → Both w → (i : ℕ) → ((arrival_of i w).0 ≡ 0 → ⊥)
      → arrival_of i (tell s t k (start s k).host (start s k).order w) ≡ arrival_of i w
  tell_stays t k w few at b i f =
      go ((changed s t k (start s k).host (told s t (start s k).host (start s k).order w).links w.post (let most = z.few in omega arith) z.m_most b.1.long).1 i)
    where
      go : (arrival_of i (tell s t k (start s k).host (start s k).order w) ≡ arrival_of i w)
          ⊎ ((l : ℕ) × (l < m s.plan) × (has (told s t (start s k).host (start s k).order w).links l ≡ true) × (i ≡ copy_from s.plan k (start s k).host l)
          × (arrival_of i (tell s t k (start s k).host (start s k).order w) ≡ later t (delay s i)) × (0 < delay s i))
          → arrival_of i (tell s t k (start s k).host (start s k).order w) ≡ arrival_of i w
      go (inl e) = e
      go (inr d) = absurd (f (ap (λ (j : ℕ). (arrival_of j w).0) d.3 ∙ tell_free s z t k w at (v.start_host_lem k few) b.0 b.1 d.0 d.1 d.2))

  -- from a world on, a place that is not free keeps its tick
  abbrev Stays : World → World → Type 0
  Stays w x = Both x × ((i : ℕ) → ((arrival_of i w).0 ≡ 0 → ⊥) → arrival_of i x ≡ arrival_of i w)

  pub arrive_stays : (t : Tick) (c : ℕ) (w x : World) → c < 24 * s.start_count → Stays w x → Stays w (arrive_one s t c x)
  arrive_stays t c w x few a = (arrive_both t c x few a.0, λ i f. go (arrives t c x) i f)
    where
      go : (e : Bool) (i : ℕ) → ((arrival_of i w).0 ≡ 0 → ⊥) → arrival_of i (cond e (hand s t c (receiver s.plan c) x) x) ≡ arrival_of i w
      go true i f = hand_stays t c x few a.0 i (λ n. f (ap (λ (y : Tick). y.0) (sym (a.1 i f)) ∙ n)) ∙ a.1 i f
      go false i f = a.1 i f

  pub start_stays : (t : Tick) (k : ℕ) (w x : World) → k < s.start_count → Stays w x → Stays w (start_one s t k x)
  start_stays t k w x few a = (start_both t k x few a.0, λ i f. go (eqb (start s k).tick.0 t.0) refl i f)
    where
      go : (e : Bool) → eqb (start s k).tick.0 t.0 ≡ e → (i : ℕ) → ((arrival_of i w).0 ≡ 0 → ⊥) → arrival_of i (cond e (tell s t k (start s k).host (start s k).order x) x) ≡ arrival_of i w
      go true e i f = tell_stays t k x few (eqb-true _ _ e) a.0 i (λ n. f (ap (λ (y : Tick). y.0) (sym (a.1 i f)) ∙ n)) ∙ a.1 i f
      go false e i f = a.1 i f

  pub world_stays : (t k i : ℕ) → ((arrival_of i (world s t)).0 ≡ 0 → ⊥) → arrival_of i (world s (t + k)) ≡ arrival_of i (world s t)
  unfolding play in_turn
  world_stays t k i f = (all k).1 i f
    where
      one : (u : ℕ) (x : World) → Stays (world s t) x → Stays (world s t) (play s u x)
      one u x a =
          let T : Tick = record { 0 = u } in
          let first : Stays (world s t) (tick_all s T x) = (ticked_both T x a.0, a.1) in
          let second : Stays (world s t) (arrived s T (24 * s.start_count) x) =
          keeps (arrive_one s T) (λ i y. Stays (world s t) y) (24 * s.start_count) (tick_all s T x) first (λ i y h q. arrive_stays T i (world s t) y h q) in
          keeps (start_one s T) (λ i y. Stays (world s t) y) s.start_count (arrived s T (24 * s.start_count) x) second (λ i y h q. start_stays T i (world s t) y h q)

      all : (k : ℕ) → Stays (world s t) (world s (t + k))
      all zero = let same : t + 0 ≡ t = omega arith in rw same (world_both t, λ i f. refl)
      all (suc k) = let same : t + suc k ≡ suc (t + k) = omega arith in rw same (one (t + k) (world s (t + k)) (all k))
