-- A copy is sent at most once: whoever has sent a copy of an order has taken the order, and nobody takes an order twice. So the 384 places of the
-- copies are enough, and no copy under way is lost by another. Assumes nothing.
use mathlib.Core.Path.{◌≡◌, refl, sym, ap, ◌∙◌}
use mathlib.Core.Logic.{◌⊎◌, inl, inr}
use mathlib.Core.Bool.{Bool, true, false, cond, false≢true}
use mathlib.Core.List.{List}
use Prim.Native.Nat.{ℕ, zero, suc, ◌%◌, ◌≤◌, ◌<◌}
use native.Mathlib.Nat.{not-suc-le-zero}
use native.Mathlib.Omega.{arith}
use borrow.Author.Tests.{eqb-true, eqb-false, eq-eqb, ne_eqb, ltb-true, ltb-false}
use lib.Dec.{ltb, eqb}
use lib.ListN.{length, get_or, set, length-set}
use lib.Seq.{get_or-set_same, get_or-set_other}
use Rattle.lists.specs.Lists.{any}
use Rattle.lists.specs.Members.{In}
use Rattle.lists.proofs.Bools.{or_cases}
use Rattle.lists.proofs.Listed.{none_member}
use Rattle.clock.specs.declared.Tick.{Tick}
use Rattle.network.specs.Network.{m, link, has}
use Rattle.network.specs.declared.Plan.{Plan}
use Rattle.host.specs.State.{same_name}
use Rattle.host.specs.OwnLinks.{ends}
use Rattle.host.specs.declared.Held.{Held}
use Rattle.host.specs.declared.Host.{Host}
use Rattle.host.proofs.Names.{is_name}
use Rattle.schedule.specs.Schedule.{copy_of}
use Rattle.schedule.specs.declared.Schedule.{Schedule}
use Rattle.engine.specs.declared.Station.{Station}
use Rattle.engine.specs.declared.Post.{Post}
use Rattle.engine.specs.declared.World.{World}
use Rattle.engine.specs.Parts.{no_tick, no_station, later, order, copy_from, start_of, link_of, sender}
use Rattle.engine.specs.Run.{delay, sent, send_one, send, station, become}
use Rattle.engine.specs.Inside.{Playable}
use Rattle.engine.proofs.Turns.{keeps}
use Rattle.engine.proofs.Kept.{taken}

-- ---- a copy's place and its parts

way : (b : Bool) → cond b 0 1 ≤ 1
way true = omega arith
way false = omega arith

start_of_lem : (k l d : ℕ) → l < 12 → d ≤ 1 → start_of (copy_of k l d) ≡ k
start_of_lem k l d h e = omega arith

link_of_lem : (k l d : ℕ) → l < 12 → d ≤ 1 → link_of (copy_of k l d) ≡ l
link_of_lem k l d h e = omega arith

way_of : (k l d : ℕ) → l < 12 → d ≤ 1 → copy_of k l d % 2 ≡ d
way_of k l d h e = omega arith

pub above : (n : ℕ) → (n ≡ 0 → ⊥) → 0 < n
above zero f = absurd (f refl)
above (suc n) f = omega arith

pub less : (l i : ℕ) → l < suc i → (l ≡ i → ⊥) → l < i
less l i h f = go (ltb l i) refl
  where
    go : (b : Bool) → ltb l i ≡ b → l < i
    go true e = ltb-true l i e
    go false e = let past : i ≤ l = ltb-false l i e in let same : l ≡ i = omega arith in absurd (f same)

module _ (p : Plan) (k q l : ℕ) (low : l < 12) where
  pub from_start : start_of (copy_from p k q l) ≡ k
  from_start = start_of_lem k l _ low (way (eqb (link p l).a q))

  pub from_link : link_of (copy_from p k q l) ≡ l
  from_link = link_of_lem k l _ low (way (eqb (link p l).a q))

  pub from_sender : ends p q l ≡ true → sender p (copy_from p k q l) ≡ q
  from_sender e = go (eqb (link p l).a q) refl (or_cases (eqb (link p l).a q) (eqb (link p l).b q) e)
    where
      at : (c : ℕ) (t : Bool) → link_of c ≡ l → c % 2 ≡ cond t 0 1 → sender p c ≡ cond t (link p l).a (link p l).b
      at c true f g = ap (λ (b : Bool). cond b (link p (link_of c)).a (link p (link_of c)).b) (eq-eqb (c % 2) 0 g) ∙ ap (λ (i : ℕ). (link p i).a) f
      at c false f g = ap (λ (b : Bool). cond b (link p (link_of c)).a (link p (link_of c)).b) (ne_eqb (c % 2) 0 (λ z. let x : ⊥ = omega (arith, g, z) in x)) ∙ ap (λ (i : ℕ). (link p i).b) f

      go : (t : Bool) → eqb (link p l).a q ≡ t → (eqb (link p l).a q ≡ true) ⊎ (eqb (link p l).b q ≡ true) → sender p (copy_of k l (cond t 0 1)) ≡ q
      go true f o = at (copy_of k l 0) true (link_of_lem k l 0 low (omega arith)) (way_of k l 0 low (omega arith)) ∙ eqb-true _ _ f
      go false f (inl o) = absurd (false≢true (sym f ∙ o))
      go false f (inr o) = at (copy_of k l 1) false (link_of_lem k l 1 low (omega arith)) (way_of k l 1 low (omega arith)) ∙ eqb-true _ _ o

-- ---- which places a host's sending changes, and to what

module _ (s : Schedule) (t : Tick) (k q links : ℕ) where
  abbrev place_of : ℕ → ℕ
  place_of l = copy_from s.plan k q l

  pub place_low : (l : ℕ) → k < 16 → l < 12 → place_of l < 384
  place_low l h e = let d = way (eqb (link s.plan l).a q) in omega arith

  module _ (post : Post) where
    -- a place is as it was, or that of a copy sent on a link below i, with the tick of its arrival
    abbrev Changed : ℕ → Post → Type 0
    Changed i x =
        (c : ℕ) → (get_or x.arrivals c no_tick ≡ get_or post.arrivals c no_tick)
        ⊎ ((l : ℕ) × (l < i) × (has links l ≡ true) × (c ≡ place_of l) × (get_or x.arrivals c no_tick ≡ later t (delay s c)) × (0 < delay s c))

    one : (i : ℕ) (x : Post) → k < 16 → i < 12 → length x.arrivals ≡ 384 → Changed i x → Changed (suc i) (send_one s t k q links i x)
    one i x few low long f c = go (has links i) refl
      where
        P : ℕ → List Tick → Type 0
        P j a =
            (get_or a c no_tick ≡ get_or post.arrivals c no_tick)
            ⊎ ((l : ℕ) × (l < j) × (has links l ≡ true) × (c ≡ place_of l) × (get_or a c no_tick ≡ later t (delay s c)) × (0 < delay s c))

        old : (a : List Tick) → get_or a c no_tick ≡ get_or x.arrivals c no_tick → P i x.arrivals → P (suc i) a
        old a g (inl e) = inl (g ∙ e)
        old a g (inr r) = inr (r.0, (let h : r.0 < i = r.1 in omega arith), r.2, r.3, g ∙ r.4, r.5)

        put : has links i ≡ true → (e : Bool) → eqb (delay s (place_of i)) 0 ≡ e → (b : Bool) → eqb c (place_of i) ≡ b
            → P (suc i) (cond e x.arrivals (set x.arrivals (place_of i) (later t (delay s (place_of i)))))
        put h true d b g = old x.arrivals refl (f c)
        put h false d true g =
            let here : c ≡ place_of i = eqb-true c (place_of i) g in
            let in_range_lem : place_of i < length x.arrivals = let l = place_low i few low in omega (arith, long) in
            let value : get_or (set x.arrivals (place_of i) (later t (delay s (place_of i)))) c no_tick ≡ later t (delay s c) =
            ap (λ (j : ℕ). get_or (set x.arrivals (place_of i) (later t (delay s (place_of i)))) j no_tick) here
            ∙ get_or-set_same x.arrivals (place_of i) (later t (delay s (place_of i))) no_tick in_range_lem
            ∙ ap (λ (j : ℕ). later t (delay s j)) (sym here) in
            let some : delay s c ≡ 0 → ⊥ = λ z. eqb-false (delay s (place_of i)) 0 d (ap (delay s) (sym here) ∙ z) in
            inr (i, omega arith, h, here, value, above (delay s c) some)
        put h false d false g = old (set x.arrivals (place_of i) (later t (delay s (place_of i)))) (get_or-set_other x.arrivals (place_of i) c (later t (delay s (place_of i))) no_tick (eqb-false c (place_of i) g)) (f c)

        go : (b : Bool) → has links i ≡ b → P (suc i) (cond b (sent s t (place_of i) x) x).arrivals
        go false e = old x.arrivals refl (f c)
        go true e = put e (eqb (delay s (place_of i)) 0) refl (eqb c (place_of i)) refl

    sent_long : (i : ℕ) (x : Post) → length x.arrivals ≡ 384 → length (send_one s t k q links i x).arrivals ≡ 384
    sent_long i x long = go (has links i)
      where
        put : (e : Bool) → length (cond e x.arrivals (set x.arrivals (place_of i) (later t (delay s (place_of i))))) ≡ 384
        put true = long
        put false = length-set x.arrivals (place_of i) (later t (delay s (place_of i))) ∙ long

        go : (b : Bool) → length (cond b (sent s t (place_of i) x) x).arrivals ≡ 384
        go false = long
        go true = put (eqb (delay s (place_of i)) 0)

    pub changed : k < 16 → m s.plan ≤ 12 → length post.arrivals ≡ 384
        → (length (send s t k q links post).arrivals ≡ 384) × Changed (m s.plan) (send s t k q links post)
    changed few most long =
        keeps (send_one s t k q links) (λ i x. (length x.arrivals ≡ 384) × Changed i x) (m s.plan) post (long, λ c. inl refl)
        (λ i x h f. (sent_long i x f.0, one i x few (omega arith) f.0 f.1))

    -- each copy that is not lost has the tick of its arrival at its place
    pub arrives_at : k < 16 → m s.plan ≤ 12 → length post.arrivals ≡ 384 → (l : ℕ) → l < m s.plan → has links l ≡ true → 0 < delay s (place_of l)
        → get_or (send s t k q links post).arrivals (place_of l) no_tick ≡ later t (delay s (place_of l))
    arrives_at few most long l low h d =
        (keeps (send_one s t k q links) (λ i x. (length x.arrivals ≡ 384) × (l < i → get_or x.arrivals (place_of l) no_tick ≡ later t (delay s (place_of l)))) (m s.plan) post
        (long, λ i. absurd (not-suc-le-zero i)) (λ i x e f. (sent_long i x f.0, λ g. go i x f.0 (omega arith) f.1 g (has links i) refl))).1 low
      where
        set_here : (i : ℕ) (x : Post) → length x.arrivals ≡ 384 → i < 12 → (l < i → get_or x.arrivals (place_of l) no_tick ≡ later t (delay s (place_of l))) → l < suc i
            → (e : Bool) → eqb (delay s (place_of i)) 0 ≡ e → (b : Bool) → eqb (place_of l) (place_of i) ≡ b → (n : Bool) → eqb l i ≡ n
            → get_or (cond e x.arrivals (set x.arrivals (place_of i) (later t (delay s (place_of i))))) (place_of l) no_tick ≡ later t (delay s (place_of l))
        set_here i x long few' f g true z b p true n =
            let same : l ≡ i = eqb-true l i n in
            let none : delay s (place_of l) ≡ 0 = ap (λ (j : ℕ). delay s (place_of j)) same ∙ eqb-true _ _ z in
            let x : ⊥ = omega (arith, none) in
            absurd x
        set_here i x long few' f g true z b p false n = f (let other : l ≡ i → ⊥ = eqb-false l i n in less l i g other)
        set_here i x long few' f g false z true p n o =
            let here : place_of l ≡ place_of i = eqb-true _ _ p in
            let in_range_lem : place_of i < length x.arrivals = let r = place_low i few few' in omega (arith, long) in
            ap (λ (j : ℕ). get_or (set x.arrivals (place_of i) (later t (delay s (place_of i)))) j no_tick) here
            ∙ get_or-set_same x.arrivals (place_of i) (later t (delay s (place_of i))) no_tick in_range_lem
            ∙ ap (λ (j : ℕ). later t (delay s j)) (sym here)
        set_here i x long few' f g false z false p true n = absurd (eqb-false _ _ p (ap place_of (eqb-true l i n)))
        set_here i x long few' f g false z false p false n =
            get_or-set_other x.arrivals (place_of i) (place_of l) (later t (delay s (place_of i))) no_tick (eqb-false _ _ p) ∙ f (less l i g (eqb-false l i n))

        go : (i : ℕ) (x : Post) → length x.arrivals ≡ 384 → i < 12 → (l < i → get_or x.arrivals (place_of l) no_tick ≡ later t (delay s (place_of l))) → l < suc i
            → (b : Bool) → has links i ≡ b → get_or (cond b (sent s t (place_of i) x) x).arrivals (place_of l) no_tick ≡ later t (delay s (place_of l))
        go i x long few' f g true e = set_here i x long few' f g (eqb (delay s (place_of i)) 0) refl (eqb (place_of l) (place_of i)) refl (eqb l i) refl
        go i x long few' f g false e = f (less l i g (λ same. false≢true (sym e ∙ ap (has links) (sym same) ∙ h)))

-- ---- whoever has sent a copy has taken its order

pub record Posted (s : Schedule) (w : World) : Type 0 where
  pub long : length w.post.arrivals ≡ 384
  pub took : (c : ℕ) → ((get_or w.post.arrivals c no_tick).0 ≡ 0 → ⊥) → In (order s (start_of c)) (taken (station w (sender s.plan c)))

-- what was taken is taken still, where station q is set to one that has taken no less
pub stands : (l : List Station) (q : ℕ) (a : Station) → q < length l → ((x : Held) → In x (taken (get_or l q no_station)) → In x (taken a))
    → (i : ℕ) (x : Held) → In x (taken (get_or l i no_station)) → In x (taken (get_or (set l q a) i no_station))
stands l q a low more i x h = go (eqb i q) refl
  where
    go : (e : Bool) → eqb i q ≡ e → In x (taken (get_or (set l q a) i no_station))
    go true e =
        let same : i ≡ q = eqb-true i q e in
        let here : In x (taken (get_or l q no_station)) = rw same at h in
        rw (same, get_or-set_same l q a no_station low) (more x here)
    go false e = rw (get_or-set_other l q i a no_station (eqb-false i q e)) h

module _ (s : Schedule) (z : Playable s) where
  -- host q, with the state g now, sends copies of start k
  pub acted : (t : Tick) (k q links : ℕ) (w : World) (g : Host) (r : List ℕ) → k < 16 → q < length w.stations
      → ((x : Held) → In x (taken (station w q)) → In x (taken (record { host = g; log = (station w q).log })))
      → ((l : ℕ) → l < m s.plan → has links l ≡ true → (ends s.plan q l ≡ true) × In (order s k) (taken (record { host = g; log = (station w q).log })))
      → Posted s w → Posted s (record { stations = become w q g; post = send s t k q links w.post; refusals = r })
  acted t k q links w g r few low more new p = record { long = all.0; took = λ c f. go c f (all.1 c) }
    where
      v : World
      v = record { stations = become w q g; post = send s t k q links w.post; refusals = r }

      all : (length v.post.arrivals ≡ 384) × Changed s t k q links w.post (m s.plan) v.post
      all = changed s t k q links w.post few z.m_most p.long

      at_q : station v q ≡ record { host = g; log = (station w q).log }
      at_q = get_or-set_same w.stations q (record { host = g; log = (station w q).log }) no_station low

      go : (c : ℕ) → ((get_or v.post.arrivals c no_tick).0 ≡ 0 → ⊥)
          → (get_or v.post.arrivals c no_tick ≡ get_or w.post.arrivals c no_tick)
          ⊎ ((l : ℕ) × (l < m s.plan) × (has links l ≡ true) × (c ≡ copy_from s.plan k q l) × (get_or v.post.arrivals c no_tick ≡ later t (delay s c)) × (0 < delay s c))
          → In (order s (start_of c)) (taken (station v (sender s.plan c)))
      go c f (inl e) = stands w.stations q (record { host = g; log = (station w q).log }) low more (sender s.plan c) (order s (start_of c)) (p.took c (λ n. f (ap (λ (i : Tick). i.0) e ∙ n)))
      go c f (inr d) =
          let l : ℕ = d.0 in
          let low : l < 12 = let most = z.m_most in let h : l < m s.plan = d.1 in omega arith in
          let fact = new l d.1 d.2 in
          let start : start_of c ≡ k = ap start_of d.3 ∙ from_start s.plan k q l low in
          let who : sender s.plan c ≡ q = ap (sender s.plan) d.3 ∙ from_sender s.plan k q l low fact.0 in
          rw (start, who, at_q) fact.1

  -- so a host that has not taken an order has no copy of it under way
  pub unsent : (k q l : ℕ) (w : World) → l < m s.plan → ends s.plan q l ≡ true → any (same_name (order s k)) (taken (station w q)) ≡ false → Posted s w
      → (get_or w.post.arrivals (copy_from s.plan k q l) no_tick).0 ≡ 0
  unsent k q l w h e new p = go (get_or w.post.arrivals (copy_from s.plan k q l) no_tick).0 refl
    where
      low : l < 12
      low = let most = z.m_most in omega arith

      go : (n : ℕ) → (get_or w.post.arrivals (copy_from s.plan k q l) no_tick).0 ≡ n → n ≡ 0
      go zero f = refl
      go (suc n) f =
          let there = p.took (copy_from s.plan k q l) (λ i. let x : ⊥ = omega (arith, f, i) in x) in
          let mine : In (order s k) (taken (station w q)) = rw (from_start s.plan k q l low, from_sender s.plan k q l low e) at there in
          absurd (false≢true (sym (none_member (same_name (order s k)) (taken (station w q)) new (order s k) mine) ∙ is_name (order s k) (order s k) refl refl))
