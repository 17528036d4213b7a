-- Demand 3 over any host that keeps the laws: from agreement to each claim, and no refusal 14, 20 or 21. Assumes nothing.
use mathlib.Core.Path.{◌≡◌, refl, sym, ap, ap₂, ◌∙◌, subst}
use mathlib.Core.Logic.{inl, inr}
use mathlib.Core.Bool.{Bool, true, false, cond}
use mathlib.Core.List.{List, [], ◌∷◌, ◌++◌, map}
use Prim.Native.Nat.{ℕ, zero, suc, ◌+◌, ◌≤◌, ◌<◌}
use native.Mathlib.Decide.{dec_lt}
use native.Mathlib.Nat.{not-suc-le-zero}
use native.Mathlib.Omega.{arith}
use lib.Dec.{leb}
use Rattle.lists.specs.Lists.{keep}
use Rattle.lists.specs.Members.{In}
use Rattle.lists.proofs.MemberLaws.{map_append}
use Rattle.orders.specs.declared.Order.{Order}
use Rattle.clock.specs.Clock.{largest_reading}
use Rattle.network.specs.Network.{n, Survivor}
use Rattle.network.specs.declared.Plan.{Plan}
use Rattle.diffusion.specs.Hosts.{Carried, Copy, Call, start, receive, Host, Refuses, IsTold, IsHanded, IsReceive, Rising}
use Rattle.diffusion.specs.Run.{Story, reading, calls_at, room_at, run, before, ticked, delivers, Starts-at, Takes-at, Handed-at, Refuses-at, Refuses-start-at, Refuses-copy-at, log, up_to, Claims}
use Rattle.diffusion.proofs.Laws.{Δ, Laws, FirstRules, Sturdy, Timed}
use Rattle.diffusion.proofs.Life as Life
use Rattle.diffusion.proofs.Starts as Starts
use Rattle.diffusion.proofs.Spread as Spread
use Rattle.diffusion.proofs.Spread.{Root}
use Rattle.diffusion.proofs.Reach.{flip, reached}
use Rattle.diffusion.proofs.Agreement as Agreement
use Rattle.diffusion.proofs.Agreement.{Keeps}

-- ---- lists of entries

map_same : {A B : Type 0} (f g : A → B) (l : List A) → ((x : A) → In x l → f x ≡ g x) → map f l ≡ map g l
map_same f g [] e = refl
map_same f g (x ∷ l) e = ap₂ ◌∷◌ (e x (inl refl)) (map_same f g l (λ y i. e y (inr i)))

map_map : {A B C : Type 0} (g : B → C) (f : A → B) (l : List A) → map g (map f l) ≡ map (λ x. g (f x)) l
map_map g f [] = refl
map_map {C = C} g f (x ∷ l) = ap (λ (k : List C). g (f x) ∷ k) (map_map g f l)

map_self : {A : Type 0} (l : List A) → map (λ x. x) l ≡ l
map_self [] = refl
map_self {A} (x ∷ l) = ap (λ (k : List A). x ∷ k) (map_self l)

keep_map : {A B : Type 0} (p : B → Bool) (f : A → B) (l : List A) → keep p (map f l) ≡ map f (keep (λ x. p (f x)) l)
keep_map p f [] = refl
keep_map {A} {B} p f (x ∷ l) = go (p (f x)) (keep_map p f l)
  where
    go : (t : Bool) → keep p (map f l) ≡ map f (keep (λ x. p (f x)) l)
        → cond t (f x ∷ keep p (map f l)) (keep p (map f l)) ≡ map f (cond t (x ∷ keep (λ x. p (f x)) l) (keep (λ x. p (f x)) l))
    go true ih = ap (λ (k : List B). f x ∷ k) ih
    go false ih = ih

module _ (P : Plan) (F : Sturdy P) (H : Host) (L : Laws P H) (B : FirstRules P H L) (R : Story) (M : Timed P H R) where
  b1 : 1 ≤ Δ P
  b1 = F.bound_least

  There : ℕ → Type 0
  There p = p < n P

  Fine : ℕ → Type 0
  Fine p = Survivor P R.faults p

  ok : (p t : ℕ) → p < n P → L.Ok p (reading R p t) (before H R p t)
  ok p t h = Life.ok_before P H L B R M b1 p t h

  -- what is delivered was held, is due, and the reading is in range
  was_held : (p t : ℕ) (x : Carried) → p < n P → In x (delivers H R p t) → In x (H.held (before H R p t)) × (x.stamp + Δ P ≤ reading R p t) × (reading R p t ≤ largest_reading)
  was_held p t x h i = L.delivered_held p (reading R p t) (room_at R p t) (before H R p t) x (ok p t h) i

  -- an order taken at q before tick u + 1, and due there but not at tick u, is delivered there
  due_then : (q v u : ℕ) (x : Carried) → q < n P → Takes-at H R q v x → v < suc u → reading R q u < x.stamp + Δ P → x.stamp + Δ P ≤ reading R q (suc u) → In x (delivers H R q (suc u))
  due_then q v u x h k l a b =
      let e = (Spread.taken_root P F H L B R M q v x h k).1.early in
      let most = F.bound_most in
      let top : reading R q (suc u) ≤ largest_reading = omega arith in
      L.delivered_all q (reading R q (suc u)) (room_at R q (suc u)) (before H R q (suc u)) x (ok q (suc u) h) top (Life.roomy_tick P H L B R M b1 q (suc u) h)
      (Life.held_before P H L B R M b1 q v u x h k l a) b

  keeps : Keeps (Δ P) R.end There Fine (reading R) (delivers H R) (Takes-at H R)
  unfolding There Fine
  keeps = record {
    there = λ p f. f.host;
    steady = λ p t u h l. Life.steadily P H L B R M b1 p t u l;
    rises = λ p t h. L.delivered_rising p (reading R p t) (room_at R p t) (before H R p t) (ok p t h);
    was = λ p t x h i. Life.held_taken P H L B R M b1 p t x (was_held p t x h i).0;
    due = λ p t x h i. (was_held p t x h i).1;
    fresh = λ p t x h i. (let r = was_held p (suc t) x h i in let m = r.2 in let s = M.steady p t in Life.not_due P H L B R M b1 p t x h (omega (arith, m, s)) r.0);
    soon = λ p v x h k. Life.taken_time P H L B R M b1 p v x h k;
    gives_then = λ q v u x h k l a b. due_then q v u x h k l a b;
    spreads = λ p t x f k z e g he d. reached P F H L B R M x p t f k z e g he d;
  }

  seq : ℕ → ℕ → List Carried
  seq p t = Agreement.sequence (Δ P) R.end There Fine (reading R) (delivers H R) (Takes-at H R) keeps p t

  -- ---- every delivery is at its due reading

  on_time : (p t : ℕ) (x : Carried) → p < n P → In x (delivers H R p t) → reading R p t ≡ x.stamp + Δ P
  unfolding There
  on_time p t x h i = go t i (keeps.was p t x h i)
    where
      go : (t : ℕ) → In x (delivers H R p t) → (v : ℕ) × (v < t) × Takes-at H R p v x → reading R p t ≡ x.stamp + Δ P
      go zero i r = absurd (not-suc-le-zero r.1)
      go (suc t) i r = let a = keeps.fresh p t x h i in let b = (was_held p (suc t) x h i).1 in omega arith

  -- an entry of the log, from what was delivered
  entry : Carried → ℕ × Carried
  entry x = (x.stamp + Δ P, x)

  log_is : (p t : ℕ) → p < n P → log H R p t ≡ map entry (seq p t)
  unfolding log entry seq Agreement.sequence
  log_is p zero h = map_same (λ x. (reading R p zero, x)) entry (delivers H R p zero) (λ x i. ap (λ (u : ℕ). (u, x)) (on_time p zero x h i))
  log_is p (suc t) h =
      ap₂ ◌++◌ (log_is p t h) (map_same (λ x. (reading R p (suc t), x)) entry (delivers H R p (suc t)) (λ x i. ap (λ (u : ℕ). (u, x)) (on_time p (suc t) x h i)))
      ∙ sym (map_append entry (seq p t) (delivers H R p (suc t)))

  -- ---- the claims

  same : (p q U : ℕ) → Survivor P R.faults p → Survivor P R.faults q → U ≤ reading R p R.end → U ≤ reading R q R.end
      → up_to H R U (log H R p R.end) ≡ up_to H R U (log H R q R.end)
  unfolding entry seq Fine
  same p q U fp fq a b =
      up p fp.host
      ∙ ap (map entry) (Agreement.agree (Δ P) R.end There Fine (reading R) (delivers H R) (Takes-at H R) keeps p q R.end R.end U fp fq (omega arith) (omega arith) a b)
      ∙ sym (up q fq.host)
    where
      up : (p : ℕ) → p < n P → up_to H R U (log H R p R.end) ≡ map entry (keep (λ x. leb (x.stamp + Δ P) U) (seq p R.end))
      up p h = ap (keep (λ e. leb e.0 U)) (log_is p R.end h) ∙ keep_map (λ e. leb e.0 U) entry (seq p R.end)

  pub rises : (p t : ℕ) → p < n P → Rising (map (λ e. e.1) (log H R p t))
  unfolding entry There seq
  rises p t h =
      subst Rising
      (sym (ap (map (λ (e : ℕ × Carried). e.1)) (log_is p t h) ∙ map_map (λ (e : ℕ × Carried). e.1) entry (seq p t) ∙ map_self (seq p t)))
      (Agreement.sequence_rises (Δ P) R.end There Fine (reading R) (delivers H R) (Takes-at H R) keeps p t h)

  -- what a host delivers it took; and what a faultless host took each has delivered once it is due there
  pub delivered_taken : (p t : ℕ) (x : Carried) → p < n P → In x (delivers H R p t) → (v : ℕ) × Takes-at H R p v x × (x.stamp + Δ P ≤ reading R p t)
  delivered_taken p t x h i =
      let w = was_held p t x h i in
      let k = Life.held_taken P H L B R M b1 p t x w.0 in
      (k.0, k.2, w.1)

  pub taken_delivered : (p v : ℕ) (x : Carried) → Survivor P R.faults p → Takes-at H R p v x → (q t : ℕ) → Survivor P R.faults q → t ≤ R.end → x.stamp + Δ P ≤ reading R q t
      → (u : ℕ) × (u ≤ t) × In x (delivers H R q u)
  unfolding Fine
  taken_delivered p v x fp k q t fq l h =
      let r = Agreement.all_deliver (Δ P) R.end There Fine (reading R) (delivers H R) (Takes-at H R) keeps p v x fp k q t fq l h in
      (suc r.0, r.1, r.4)

  delivered : (s q t u : ℕ) (x : Carried) → Survivor P R.faults s → Survivor P R.faults q → Starts-at H R s t x → u ≤ R.end → reading R q u ≡ x.stamp + Δ P → In x (delivers H R q u)
  unfolding Fine
  delivered s q t u x fs fq k hu e = at (dec_lt (suc v.0) u)
    where
      v : Agreement.DueAt (Δ P) R.end There Fine (reading R) (delivers H R) (Takes-at H R) keeps q u x
      v = Agreement.all_deliver (Δ P) R.end There Fine (reading R) (delivers H R) (Takes-at H R) keeps s t x fs (Life.starts_taken P H L B R M b1 s t x fs.host k) q u fq hu (omega arith)

      at : Dec (suc v.0 < u) → In x (delivers H R q u)
      at (yes l) = let b = v.3 in absurd (omega arith)
      at (no ne) = let l = v.1 in subst (λ z. In x (delivers H R q z)) {x = suc v.0} {y = u} (omega (arith, ne, l)) v.4

  pub started : (p t : ℕ) (x : Carried) → p < n P → In x (delivers H R p t) → (s : ℕ) × (u : ℕ) × (s < n P) × (u < t) × Starts-at H R s u x
  started p t x h i =
      let k = Life.held_taken P H L B R M b1 p t x (was_held p t x h i).0 in
      let r = Spread.taken_root P F H L B R M p k.0 x h k.2 in
      let a = k.1 in
      let b = r.1.by in
      (x.source, r.1.at, r.1.host, omega (arith, a, b), r.1.starts)

  -- ---- refusals 14, 20 and 21 do not occur

  -- a copy that is handed over has a start before
  handed_root : (p t k : ℕ) (c : Copy) → p < n P → Handed-at H R p t k c → (u : ℕ) × (u < t) × ((b : ℕ) × Root P F H L B R M c.what u b)
  handed_root p t k c h i =
      let a = M.arrives p t k c h i in
      (a.1, a.3, Spread.taken_root P F H L B R M a.0 a.1 c.what (F.ends_in k a.0 p a.2).0 (Life.sent_taken P H L B R M b1 a.0 a.1 c k a.5))

  -- where a call stands: host p at tick t, the state that it met and what the proof knows of it
  record Where (p t : ℕ) (s : H.State) : Type 0 where
    list : List Carried
    agreed : Starts.Agrees P H L B p (reading R p t) s list
    from : (y : Carried) → In y (H.held (ticked H R p t)) → In y (H.held s)
    on : (y : Carried) → In y (H.held s) → In y (H.held (before H R p (suc t)))

  -- a refusal that no start gives, and no copy whose start lies before, is never given
  never : (r p t : ℕ) → p < n P
      → ((s : H.State) (o : Order) → Where p t s → Refuses (H.call (reading R p t) s (start o)) r → ⊥)
      → ((s : H.State) (k : ℕ) (c : Copy) → Where p t s → (u : ℕ) × (u < t) × ((b : ℕ) × Root P F H L B R M c.what u b) → Refuses (H.call (reading R p t) s (receive k c)) r → ⊥)
      → Refuses-at H R p t r → ⊥
  unfolding before
  never r p t h no_start no-receive q = both e.this e.holds (λ k c i. e.handed k c i)
    where
      e : Starts.Met P H L B (λ s c. Refuses (H.call (reading R p t) s c) r) p (reading R p t) (ticked H R p t) (calls_at R p t)
      e = Starts.met P H L B R M b1 (λ s c. Refuses (H.call (reading R p t) s c) r) p t h q

      w : Where p t e.state
      w = record { list = e.list; agreed = e.agreed; from = e.from; on = e.on }

      both : (c : Call) → Refuses (H.call (reading R p t) e.state c) r → ((k : ℕ) (d : Copy) → IsReceive k d c → Handed-at H R p t k d) → ⊥
      both (start o) q f = no_start e.state o w q
      both (receive k d) q f = no-receive e.state k d w (handed_root p t k d h (f k d (refl, refl))) q

  never_14 : (p t : ℕ) → p < n P → Refuses-at H R p t 14 → ⊥
  never_14 p t h =
      never 14 p t h
      (λ s o w q. (let f = L.full_start p (reading R p t) s o w.agreed.ok q in Spread.roomy_start P F H L B R M p t o s w.list h f.1 w.agreed w.on f.2 f.3 f.0))
      (λ s k c w r q. (let f = B.full_receive p (reading R p t) s k c w.agreed.ok q in
      let l = r.1 in
      Spread.roomy P F H L B R M p t c.what s w.list h f.1 w.agreed w.on
      (Spread.root_near P F H L B R M p t r.0 r.2.0 c.what h r.2.1 (omega (arith, l)) f.2) f.3 f.0))

  never_20 : (p t : ℕ) → p < n P → Refuses-at H R p t 20 → ⊥
  never_20 p t h =
      never 20 p t h
      (λ s o w q. L.other_start (reading R p t) s o (inl q))
      (λ s k c w r q. (let f = B.other_receive p (reading R p t) s k c w.agreed.ok q in
      let tk = Life.held_taken P H L B R M b1 p (suc t) f.0 (w.on f.0 f.1) in
      let ry = Spread.taken_root P F H L B R M p tk.0 f.0 h tk.2 in
      f.3 (Spread.one_name P F H L B R M f.0 c.what tk.0 r.0 ry.0 r.2.0 ry.1 r.2.1 f.2)))

  never_21 : (p t : ℕ) → p < n P → Refuses-at H R p t 21 → ⊥
  never_21 p t h =
      never 21 p t h
      (λ s o w q. L.other_start (reading R p t) s o (inr q))
      (λ s k c w r q. (let f = B.own_receive p (reading R p t) s k c w.agreed.ok q in
      let o = r.2.1 in
      let l = r.1 in
      let b = o.by in
      let x = c.what in
      f.1 x
      (w.from x (Life.held_until P H L B R M b1 p o.at t x h
      (subst (λ z. Takes-at H R z o.at x) f.0 (Life.starts_taken P H L B R M b1 x.source o.at x o.host o.starts)) (omega (arith, l, b)) f.2)) (refl, refl)))

  -- ---- which refusals there are

  -- a call that is refused with r is so within the list, where r is neither 14, 20 nor 21
  start_answers : (p t r : ℕ) → p < n P → Refuses-start-at H R p t r → In r (23 ∷ 10 ∷ 12 ∷ 13 ∷ [])
  start_answers p t r h q = go (Life.pick P H L B (λ s c. IsTold c × Refuses (H.call (reading R p t) s c) r) p (reading R p t) (ticked H R p t) (calls_at R p t) (Life.ok_ticked P H L B R M b1 p t h) q)
    where
      full : (s : H.State) (c : Call) → IsTold c × Refuses (H.call (reading R p t) s c) r → Refuses (H.call (reading R p t) s c) r
      full s c i = i.1

      narrow : In r (23 ∷ 10 ∷ 12 ∷ 13 ∷ 14 ∷ []) → In r (23 ∷ 10 ∷ 12 ∷ 13 ∷ [])
      narrow (inl e) = inl e
      narrow (inr (inl e)) = inr (inl e)
      narrow (inr (inr (inl e))) = inr (inr (inl e))
      narrow (inr (inr (inr (inl e)))) = inr (inr (inr (inl e)))
      narrow (inr (inr (inr (inr (inl e))))) =
          absurd (never_14 p t h (subst (Refuses-at H R p t) e (Life.some_map H _ _ full (reading R p t) (ticked H R p t) (calls_at R p t) q)))
      narrow (inr (inr (inr (inr (inr i))))) = absurd i

      told : (s : H.State) (c : Call) → L.Ok p (reading R p t) s → IsTold c × Refuses (H.call (reading R p t) s c) r → In r (23 ∷ 10 ∷ 12 ∷ 13 ∷ 14 ∷ [])
      told s (start o) ok i = L.start_refusals p (reading R p t) s o r ok i.1
      told s (receive k c) ok i = absurd i.0

      go : (s' : H.State) × (c : Call) × L.Ok p (reading R p t) s' × (IsTold c × Refuses (H.call (reading R p t) s' c) r)
          × ((y : Carried) → In y (H.held (ticked H R p t)) → In y (H.held s')) × ((y : Carried) → In y (H.held s') → In y (H.held (run H (reading R p t) (ticked H R p t) (calls_at R p t))))
          → In r (23 ∷ 10 ∷ 12 ∷ 13 ∷ [])
      go m = narrow (told m.0 m.1 m.2 m.3)

  copy_answers : (p t r : ℕ) → p < n P → Refuses-copy-at H R p t r → In r (18 ∷ 19 ∷ [])
  copy_answers p t r h q = go (Starts.met P H L B R M b1 (λ s c. IsHanded c × Refuses (H.call (reading R p t) s c) r) p t h q)
    where
      full : (s : H.State) (c : Call) → IsHanded c × Refuses (H.call (reading R p t) s c) r → Refuses (H.call (reading R p t) s c) r
      full s c i = i.1

      refused_at : Refuses-at H R p t r
      refused_at = Life.some_map H _ _ full (reading R p t) (ticked H R p t) (calls_at R p t) q

      narrow : In r (18 ∷ 19 ∷ 20 ∷ 21 ∷ 14 ∷ []) → In r (18 ∷ 19 ∷ [])
      narrow (inl e) = inl e
      narrow (inr (inl e)) = inr (inl e)
      narrow (inr (inr (inl e))) = absurd (never_20 p t h (subst (Refuses-at H R p t) e refused_at))
      narrow (inr (inr (inr (inl e)))) = absurd (never_21 p t h (subst (Refuses-at H R p t) e refused_at))
      narrow (inr (inr (inr (inr (inl e))))) = absurd (never_14 p t h (subst (Refuses-at H R p t) e refused_at))
      narrow (inr (inr (inr (inr (inr i))))) = absurd i

      handed : (s : H.State) (k : ℕ) (c : Copy) → L.Ok p (reading R p t) s → Handed-at H R p t k c → Refuses (H.call (reading R p t) s (receive k c)) r → In r (18 ∷ 19 ∷ [])
      handed s k c fit i refuses =
          let a = M.arrives p t k c h i in
          let hq = (F.ends_in k a.0 p a.2).0 in
          let took = Life.sent_taken P H L B R M b1 a.0 a.1 c k a.5 in
          let root = (Spread.taken_root P F H L B R M a.0 a.1 c.what hq took).1 in
          let soon = Life.taken_time P H L B R M b1 a.0 a.1 c.what hq took in
          let early = root.early in
          let near = a.6 in
          let most = F.bound_most in
          let short = F.delay_most in
          let top : reading R p t ≤ largest_reading = omega arith in
          let plain = Life.sent_plain P H L B R M b1 a.0 a.1 c k hq a.5 in
          narrow (B.receive_refusals p (reading R p t) s k c r fit top (a.0, (a.2.0, flip a.2.1)) root.host early root.good plain refuses)

      go : Starts.Met P H L B (λ s c. IsHanded c × Refuses (H.call (reading R p t) s c) r) p (reading R p t) (ticked H R p t) (calls_at R p t) → In r (18 ∷ 19 ∷ [])
      go e = at e.this e.holds (λ k c i. e.handed k c i)
        where
          at : (c : Call) → IsHanded c × Refuses (H.call (reading R p t) e.state c) r → ((k : ℕ) (d : Copy) → IsReceive k d c → Handed-at H R p t k d) → In r (18 ∷ 19 ∷ [])
          at (start o) i f = absurd i.0
          at (receive k c) i f = handed e.state k c e.agreed.ok (f k c (refl, refl)) i.1

  tick_answers : (p t : ℕ) → p < n P → t ≤ R.end → reading R p t ≤ largest_reading → H.refusal (reading R p t) (R.room p t) (before H R p t) ≡ 0
  tick_answers p t h l top = L.tick_refusal_lem p (reading R p t) (R.room p t) (before H R p t) (ok p t h) (M.room p t h l) top

pub theorem : (P : Plan) (H : Host) (R : Story) → Sturdy P → (L : Laws P H) → FirstRules P H L → Timed P H R → Claims P H R
theorem P H R F L B M =
    record {
      same = same P F H L B R M;
      delivered = delivered P F H L B R M;
      started = started P F H L B R M;
      never_14 = never_14 P F H L B R M;
      never_20 = never_20 P F H L B R M;
      never_21 = never_21 P F H L B R M;
      start_answers = start_answers P F H L B R M;
      copy_answers = copy_answers P F H L B R M;
      tick_answers = tick_answers P F H L B R M;
      on_time = λ p t x h l i. on_time P F H L B R M p t x h i;
      rises = λ p h. rises P F H L B R M p R.end h;
    }
