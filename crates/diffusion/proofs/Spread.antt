-- How an order spreads: back along its path to its start, forward from the first faultless host by diffusion. Assumes nothing.
use mathlib.Core.Path.{◌≡◌, refl, sym, ap, ap₂, ◌∙◌, subst}
use mathlib.Core.Logic.{◌⊎◌, inl, inr}
use mathlib.Core.Bool.{Bool, true, false, true≢false}
use mathlib.Core.List.{List, [], ◌∷◌}
use Prim.Native.Nat.{ℕ, zero, suc, ◌+◌, ◌*◌, ◌≤◌, ◌<◌}
use native.Mathlib.Decide.{ℕ_discrete}
use native.Mathlib.Nat.{not-suc-le-zero, suc-mul, mul-le-mul_right}
use native.Mathlib.Omega.{arith}
use lib.ListN.{length}
use Rattle.lists.specs.Members.{In, All, Distinct}
use Rattle.lists.proofs.MemberLaws.{all_in, all_map, pigeon}
use Rattle.orders.specs.declared.Order.{Order}
use Rattle.orders.specs.Orders.{share_fits}
use Rattle.clock.specs.Clock.{largest_reading, largest_stamp}
use Rattle.network.specs.Network.{n, π, δ, ε, has, Survivor}
use Rattle.network.specs.declared.Plan.{Plan}
use Rattle.diffusion.specs.Hosts.{Carried, Copy, Call, start, receive, Host, Takes, IsReceive, SameName}
use Rattle.diffusion.specs.Run.{Story, reading, calls_at, before, ticked, Starts-at, Takes-at, Handed-at, Joins}
use Rattle.diffusion.proofs.Laws.{Δ, W, Owns, Fourth, NoName, Laws, FirstRules, Sturdy, Lasts, Timed}
use Rattle.diffusion.proofs.Life as Life
use Rattle.diffusion.proofs.Starts as Starts
use Rattle.diffusion.proofs.Starts.{stamps, Falling}

-- the other end of a link
ends_other : (a b p q q' : ℕ) → ((a ≡ q') × (b ≡ p)) ⊎ ((a ≡ p) × (b ≡ q')) → ((a ≡ p) × (b ≡ q)) ⊎ ((a ≡ q) × (b ≡ p)) → q' ≡ q
ends_other a b p q q' (inl x) (inl y) = omega arith
ends_other a b p q q' (inl x) (inr y) = omega arith
ends_other a b p q q' (inr x) (inl y) = omega arith
ends_other a b p q q' (inr x) (inr y) = omega arith

pub other_end : (P : Plan) (k p q q' : ℕ) → Joins P k q' p → Joins P k p q → q' ≡ q
other_end P k p q q' a b = ends_other _ _ p q q' a.1 b.1

is_receive : (k : ℕ) (x : Copy) (c : Call) → IsReceive k x c → receive k x ≡ c
is_receive k x (start o) h = absurd h
is_receive k x (receive j m) h = ap₂ receive h.0 h.1

module _ (P : Plan) (F : Sturdy P) (H : Host) (L : Laws P H) (B : FirstRules P H L) (R : Story) (M : Timed P H R) where
  b1 : 1 ≤ Δ P
  b1 = F.bound_least

  -- the way that an order came, from its start, with the hosts on it
  pub data Way (x : Carried) : ℕ → ℕ → List ℕ → Type 0 where
    source : (p t : ℕ) → p < n P → Starts-at H R p t x → Way x p t []
    hop : {p t : ℕ} {l : List ℕ} (q u : ℕ) → Way x p t l → q < n P → Takes-at H R q u x → t < u → Lasts P R t u (δ P) → Way x q u (p ∷ l)

  way_fuel : (f p t : ℕ) (x : Carried) → t < f → p < n P → Takes-at H R p t x → (l : List ℕ) × Way x p t l
  way_fuel zero p t x lt h k = absurd (not-suc-le-zero lt)
  way_fuel (suc f) p t x lt h k =
      go (λ q u l h' k'. way_fuel f q u x l h' k') (Life.some_split P H L B p (reading R p t) (ticked H R p t) (calls_at R p t) x (Life.ok_ticked P H L B R M b1 p t h) k)
    where
      go : ((q u : ℕ) → u < f → q < n P → Takes-at H R q u x → (l : List ℕ) × Way x q u l)
          → Starts-at H R p t x ⊎ ((j : ℕ) × (d : Copy) × (x ≡ d.what) × Handed-at H R p t j d) → (l : List ℕ) × Way x p t l
      go ih (inl s) = ([], source p t h s)
      go ih (inr a) =
          let r = M.arrives p t a.0 a.1 h a.3 in
          let e = r.3 in
          let sent = subst (Takes-at H R r.0 r.1) (sym a.2) (Life.sent_taken P H L B R M b1 r.0 r.1 a.1 a.0 r.5) in
          let w = ih r.0 r.1 (omega (arith, e, lt)) (F.ends_in a.0 r.0 p r.2).0 sent in
          (r.0 ∷ w.0, hop p t w.1 h k e r.4)

  pub way : (p t : ℕ) (x : Carried) → p < n P → Takes-at H R p t x → (l : List ℕ) × Way x p t l
  way p t x h k = way_fuel (suc t) p t x (omega arith) h k

  pub way_host : (x : Carried) (p t : ℕ) (l : List ℕ) → Way x p t l → p < n P
  way_host x p t l (source _ _ h s) = h
  way_host x p t l (hop _ _ w h k lt la) = h

  pub way_takes : (x : Carried) (p t : ℕ) (l : List ℕ) → Way x p t l → Takes-at H R p t x
  way_takes x p t l (source _ _ h s) = Life.starts_taken P H L B R M b1 p t x h s
  way_takes x p t l (hop _ _ w h k lt la) = k

  -- the start of an order, and how long it took from there
  pub record Root (x : Carried) (t b : ℕ) : Type 0 where
    pub at : ℕ
    pub host : x.source < n P
    pub starts : Starts-at H R x.source at x
    pub stamp_is : x.stamp ≡ reading R x.source at
    pub early : x.stamp ≤ largest_stamp
    pub good : share_fits x.order ≡ true
    pub by : at ≤ t
    pub lasts : Lasts P R at t b

  root : (x : Carried) (p t : ℕ) (l : List ℕ) → Way x p t l → Root x t (length l * δ P)
  root x p t l (source _ _ h s) =
      let f = Life.started_facts P H L B R M b1 p t x h s in
      let e = sym f.source_is in
      let fs = f.stamp_is in
      let fm = f.in_range_lem in
      record {
        at = t;
        host = subst (λ z. z < n P) e h;
        starts = subst (λ z. Starts-at H R z t x) e s;
        stamp_is = f.stamp_is ∙ ap (λ z. reading R z t) e;
        early = omega arith;
        good = f.share;
        by = omega arith;
        lasts = λ r sv. omega arith;
      }
  root x p t l (hop {p = p'} {t = t'} {l = l'} _ _ w h k lt la) =
      let r = root x p' t' l' w in
      let c = r.by in
      let sm = suc-mul (length l') (δ P) in
      record {
        at = r.at;
        host = r.host;
        starts = r.starts;
        stamp_is = r.stamp_is;
        early = r.early;
        good = r.good;
        by = omega (arith, c, lt);
        lasts = λ z sv. (let a₁ = r.lasts z sv in let a₂ = la z sv in omega (arith, a₁, a₂, sm));
      }

  pub taken_root : (p t : ℕ) (x : Carried) → p < n P → Takes-at H R p t x → (k : ℕ) × Root x t k
  taken_root p t x h k = let w = way p t x h k in (length w.0 * δ P, root x p t w.0 w.1)

  -- orders of one name are one order
  pub one_name : (x y : Carried) (t u b c : ℕ) → Root x t b → Root y u c → SameName x y → x ≡ y
  one_name x y t u b c r q e =
      Starts.one_start P H L B R M b1 x.source r.at q.at x y r.host r.starts (subst (λ z. Starts-at H R z q.at y) (sym e.1) q.starts) e.0

  -- a host takes an order once
  retake : (p t : ℕ) (x : Carried) (s : H.State) (g : List Carried) (c : Call) → Starts.Agrees P H L B p (reading R p t) s g → In x (H.held s) → Takes (H.call (reading R p t) s c) x → ⊥
  retake p t x s g (start o) A i k =
      let f = L.take_start p (reading R p t) s o x A.ok k in
      let e : x.stamp ≡ reading R p t = ap (λ (z : Carried). z.stamp) f.0 in
      let own : x.source ≡ p = ap (λ (z : Carried). z.source) f.0 in
      let ab = all_in {A = Carried} (λ y. y.stamp < reading R p t) g (Starts.all_below (W P) (reading R p t) g A.falling (subst (All (λ a. a < reading R p t)) A.last_four f.3)) x (A.own x i own) in
      omega arith
  retake p t x s g (receive j m) A i k = (B.take_receive p (reading R p t) s j m x A.ok k).3 x i (refl, refl)

  once : (p t u : ℕ) (x : Carried) → p < n P → Takes-at H R p t x → Takes-at H R p u x → t < u → ⊥
  once p t u x h i j lt =
      let e = Starts.met P H L B R M b1 (λ s c. Takes (H.call (reading R p u) s c) x) p u h j in
      let held = Life.held_until P H L B R M b1 p t u x h i lt (Life.taken_time P H L B R M b1 p u x h j) in
      retake p u x e.state e.list e.this e.agreed (e.from x held) e.holds

  -- the hosts that it passed took it before, so they are distinct
  passed : (x : Carried) (p t : ℕ) (l : List ℕ) → Way x p t l → All (λ q. (u : ℕ) × (u < t) × (q < n P) × Takes-at H R q u x) l
  passed x p t l (source _ _ h s) = tt
  passed x p t l (hop {p = p'} {t = t'} {l = l'} _ _ w h k lt la) = (
    (t', lt, way_host x p' t' l' w, way_takes x p' t' l' w),
    all_map (λ q. (u : ℕ) × (u < t') × (q < n P) × Takes-at H R q u x) (λ q. (u : ℕ) × (u < t) × (q < n P) × Takes-at H R q u x)
        (λ q r. (r.0, (let e = r.1 in omega (arith, e, lt)), r.2, r.3)) l' (passed x p' t' l' w),
  )

  distinct : (x : Carried) (p t : ℕ) (l : List ℕ) → Way x p t l → Distinct (p ∷ l)
  distinct x p t l (source _ _ h s) = ((λ i. i), tt)
  distinct x p t l (hop {p = p'} {t = t'} {l = l'} _ _ w h k lt la) =
      ((λ i. (let r = all_in _ (p' ∷ l') (passed x p t (p' ∷ l') (hop p t w h k lt la)) p i in once p r.0 t x h r.3 k r.1)), distinct x p' t' l' w)

  abbrev pub Bad : ℕ → Type 0
  Bad q = (q < n P) × (has R.faults.hosts q ≡ true)

  -- the first faultless host on the way
  pub record First (x : Carried) : Type 0 where
    pub who : ℕ
    pub when : ℕ
    pub past : List ℕ
    pub its : Way x who when past
    pub fine : has R.faults.hosts who ≡ false
    pub bad : All Bad past

  first : (x : Carried) (p t : ℕ) (l : List ℕ) → Way x p t l → All Bad (p ∷ l) ⊎ First x
  first x p t l (source _ _ h s) = go (has R.faults.hosts p) refl
    where
      go : (b : Bool) → has R.faults.hosts p ≡ b → All Bad (p ∷ []) ⊎ First x
      go true e = inl ((h, e), tt)
      go false e = inr (record { who = p; when = t; past = []; its = source p t h s; fine = e; bad = tt })
  first x p t l (hop {p = p'} {t = t'} {l = l'} _ _ w h k lt la) = back (first x p' t' l' w)
    where
      go : All Bad (p' ∷ l') → (b : Bool) → has R.faults.hosts p ≡ b → All Bad (p ∷ p' ∷ l') ⊎ First x
      go a true e = inl ((h, e), a)
      go a false e = inr (record { who = p; when = t; past = p' ∷ l'; its = hop p t w h k lt la; fine = e; bad = a })

      back : All Bad (p' ∷ l') ⊎ First x → All Bad (p ∷ p' ∷ l') ⊎ First x
      back (inl a) = go a (has R.faults.hosts p) refl
      back (inr f) = inr f

  pub first_of : (p t : ℕ) (x : Carried) → Survivor P R.faults p → Takes-at H R p t x → First x
  first_of p t x sv k = let w = way p t x sv.host k in go w.0 (first x p t w.0 w.1)
    where
      go : (l : List ℕ) → All Bad (p ∷ l) ⊎ First x → First x
      go l (inl a) = absurd (true≢false (sym a.0.1 ∙ sv.well))
      go l (inr f) = f

  -- it is reached within the planned number of faulty hosts
  pub first_root : (x : Carried) (f : First x) → Root x f.when (π P * δ P)
  first_root x f =
      let r = root x f.who f.when f.past f.its in
      let c = pigeon (n P) (has R.faults.hosts) f.past (distinct x f.who f.when f.past f.its).1 f.bad in
      let fh = M.few_hosts in
      let m = mul-le-mul_right {m = length f.past} {n = π P} (δ P) (omega (arith, c, fh)) in
      record {
        at = r.at;
        host = r.host;
        starts = r.starts;
        stamp_is = r.stamp_is;
        early = r.early;
        good = r.good;
        by = r.by;
        lasts = λ z sv. (let a = r.lasts z sv in omega (arith, a, m));
      }

  -- ---- room for all

  pub starts_of_lem : ℕ → ℕ → List Carried
  starts_of_lem p t = Starts.starts_of_lem P H L B R M b1 p t

  -- what is held at p in tick t: whence it is, and how near the reading its stamp is
  pub record Near (p t : ℕ) (y : Carried) : Type 0 where
    pub src : y.source < n P
    pub list : In y (starts_of_lem y.source (suc t))
    pub low : reading R p t < y.stamp + Δ P
    pub high : y.stamp < reading R p t + ε P

  pub root_near : (p t k b : ℕ) (y : Carried) → p < n P → Root y k b → k ≤ t → reading R p t < y.stamp + Δ P → Near p t y
  unfolding starts_of_lem
  root_near p t k b y h r kt low =
      let a = r.by in
      let e = r.stamp_is in
      let st = Life.steadily P H L B R M b1 y.source r.at t (omega (arith, a, kt)) in
      let cl = M.close y.source p t r.host h in
      record {
        src = r.host;
        list = Starts.stay_starts P H L B R M b1 y.source (suc r.at) (suc t) y (omega (arith, a, kt)) (Starts.in_starts P H L B R M b1 y.source r.at y r.host r.starts);
        low = low;
        high = omega (arith, e, st, cl);
      }

  held_near : (p t : ℕ) (y : Carried) → p < n P → reading R p t ≤ largest_reading → In y (H.held (before H R p (suc t))) → Near p t y
  held_near p t y h m i =
      let r = Life.held_taken P H L B R M b1 p (suc t) y i in
      let l = r.1 in
      let q = taken_root p r.0 y h r.2 in
      root_near p t r.0 q.0 y h q.1 (omega (arith, l)) (Life.not_due P H L B R M b1 p t y h m i)

  pub roomy : (p t : ℕ) (x : Carried) (s : H.State) (g : List Carried) → p < n P → reading R p t ≤ largest_reading → Starts.Agrees P H L B p (reading R p t) s g
      → ((y : Carried) → In y (H.held s) → In y (H.held (before H R p (suc t)))) → Near p t x → NoName (H.held s) x → 32 ≤ length (H.held s) → ⊥
  unfolding starts_of_lem
  roomy p t x s g h m A on nx nn full =
      let c = Starts.few (W P) (n P) (λ z. starts_of_lem z (suc t)) (λ z hz. (Starts.agrees P H L B R M b1 z (suc t) hz).falling) (x ∷ H.held s)
      (nn, Starts.rising_differ (H.held s) (L.rising p (reading R p t) s A.ok)) (λ y i. ((near y i).src, (near y i).list)) (λ y z i j. (let a = (near y i).high in let b = (near z j).low in let w = F.window_is in omega (arith, a, b, w))) in
      let few = F.hosts_most in
      omega (arith, c, few, full)
    where
      near : (y : Carried) → In y (x ∷ H.held s) → Near p t y
      near y (inl e) = subst (Near p t) (sym e) nx
      near y (inr i) = held_near p t y h m (on y i)

  -- the same where host p is about to start x
  select : (z p : ℕ) → Dec (z ≡ p) → List Carried → List Carried → List Carried
  select z p (yes e) a b = a
  select z p (no n) a b = b

  pub roomy_start : (p t : ℕ) (o : Order) (s : H.State) (g : List Carried) → p < n P → reading R p t ≤ largest_stamp → Starts.Agrees P H L B p (reading R p t) s g
      → ((y : Carried) → In y (H.held s) → In y (H.held (before H R p (suc t)))) → All (λ a. a < reading R p t) (H.starts s) → Fourth (W P) (reading R p t) (H.starts s)
      → 32 ≤ length (H.held s) → ⊥
  unfolding starts_of_lem select
  roomy_start p t o s g h m A on below fourth full =
      let c = Starts.few (W P) (n P) gs fall (x ∷ H.held s) (nn, Starts.rising_differ (H.held s) (L.rising p (reading R p t) s A.ok)) fit close in
      let few = F.hosts_most in
      omega (arith, c, few, full)
    where
      U : ℕ
      U = reading R p t

      x : Carried
      x = record { stamp = U; source = p; order = o }

      gs : ℕ → List Carried
      gs z = select z p (ℕ_discrete z p) (x ∷ g) (starts_of_lem z (suc t))

      all_less : All (λ y. y.stamp < U) g
      all_less = Starts.all_below (W P) U g A.falling (subst (All (λ a. a < U)) A.last_four below)

      fall_x : Falling (W P) (x ∷ g)
      fall_x = (all_less, Starts.fourth_take (W P) U (stamps g) (subst (Fourth (W P) U) A.last_four fourth), A.falling)

      fall_at : (z : ℕ) → z < n P → (e : Dec (z ≡ p)) → Falling (W P) (select z p e (x ∷ g) (starts_of_lem z (suc t)))
      fall_at z hz (yes e) = fall_x
      fall_at z hz (no n) = (Starts.agrees P H L B R M b1 z (suc t) hz).falling

      fall : (z : ℕ) → z < n P → Falling (W P) (gs z)
      fall z hz = fall_at z hz (ℕ_discrete z p)

      nn : NoName (H.held s) x
      nn y i e = let a = all_in {A = Carried} (λ y. y.stamp < U) g all_less y (A.own y i e.1) in let c = e.0 in omega (arith, a, c)

      near : (y : Carried) → In y (H.held s) → Near p t y
      near y i = held_near p t y h (omega (arith, m)) (on y i)

      own_in : (e : Dec (p ≡ p)) → In x (select p p e (x ∷ g) (starts_of_lem p (suc t)))
      own_in (yes e) = inl refl
      own_in (no n) = absurd (n refl)

      held_in : (y : Carried) → In y (H.held s) → (e : Dec (y.source ≡ p)) → In y (select y.source p e (x ∷ g) (starts_of_lem y.source (suc t)))
      held_in y i (yes e) = inr (A.own y i e)
      held_in y i (no n) = (near y i).list

      fit : (y : Carried) → In y (x ∷ H.held s) → (y.source < n P) × In y (gs y.source)
      fit y (inl e) = subst (λ y. (y.source < n P) × In y (gs y.source)) (sym e) (h, own_in (ℕ_discrete p p))
      fit y (inr i) = ((near y i).src, held_in y i (ℕ_discrete y.source p))

      low : (y : Carried) → In y (x ∷ H.held s) → U < y.stamp + Δ P
      low y (inl e) = let a = ap (λ (w : Carried). w.stamp) e in let b = b1 in omega (arith, a, b)
      low y (inr i) = (near y i).low

      high : (y : Carried) → In y (x ∷ H.held s) → y.stamp < U + ε P
      high y (inl e) = let a = ap (λ (w : Carried). w.stamp) e in let b = F.skew_least in omega (arith, a, b)
      high y (inr i) = (near y i).high

      close : (y z : Carried) → In y (x ∷ H.held s) → In z (x ∷ H.held s) → y.stamp < z.stamp + W P
      close y z i j = let a = high y i in let b = low z j in let w = F.window_is in omega (arith, a, b, w)

  -- ---- forward

  -- a copy that comes in time is taken now or was taken before
  pub handed_taken : (q t k : ℕ) (d : Copy) (w c : ℕ) (r : Root d.what w c) → q < n P → Owns P q k → r.at < t → d.hop ≡ 0 → Handed-at H R q t k d
      → reading R q t < d.what.stamp + Δ P → (v : ℕ) × (v ≤ t) × Takes-at H R q v d.what
  unfolding before
  handed_taken q t k d w c r h own lt plain hd tm =
      let e = Starts.met P H L B R M b1 (λ s c. IsReceive k d c) q t h hd in
      go e (B.progress q (reading R q t) e.state k d e.agreed.ok top own r.host r.early r.good plain tm)
    where
      x : Carried
      x = d.what

      top : reading R q t ≤ largest_reading
      top = let a = r.early in let b = F.bound_most in omega (arith, a, b, tm)

      fin : (e : Starts.Met P H L B (λ s c. IsReceive k d c) q (reading R q t) (ticked H R q t) (calls_at R q t)) → NoName (H.held e.state) x → (x.source ≡ q) ⊎ (32 ≤ length (H.held e.state))
          → (v : ℕ) × (v ≤ t) × Takes-at H R q v x
      fin e nn (inl sq) =
          absurd (nn x
          (e.from x (Life.held_until P H L B R M b1 q r.at t x h (subst (λ z. Takes-at H R z r.at x) sq (Life.starts_taken P H L B R M b1 x.source r.at x r.host r.starts)) lt tm)) (refl, refl))
      fin e nn (inr full) =
          absurd (roomy q t x e.state e.list h top e.agreed e.on
          (root_near q t r.at zero x h (record { at = r.at; host = r.host; starts = r.starts; stamp_is = r.stamp_is; early = r.early; good = r.good; by = omega arith; lasts = λ z sv. omega arith }) (omega (arith, lt)) tm) nn full)

      go : (e : Starts.Met P H L B (λ s c. IsReceive k d c) q (reading R q t) (ticked H R q t) (calls_at R q t))
          → Takes (H.call (reading R q t) e.state (receive k d)) x ⊎ (((y : Carried) × In y (H.held e.state) × SameName y x) ⊎ (NoName (H.held e.state) x × ((x.source ≡ q) ⊎ (32 ≤ length (H.held e.state)))))
          → (v : ℕ) × (v ≤ t) × Takes-at H R q v x
      go e (inl tk) = (t, omega arith, e.taken x (subst (λ c. Takes (H.call (reading R q t) e.state c) x) (is_receive k d e.this e.holds) tk))
      go e (inr (inl y)) =
          let tk = Life.held_taken P H L B R M b1 q (suc t) y.0 (e.on y.0 y.1) in
          let l = tk.1 in
          let ry = taken_root q tk.0 y.0 h tk.2 in
          let same = one_name y.0 x tk.0 w ry.0 c ry.1 r y.2 in
          (tk.0, omega (arith, l), subst (Takes-at H R q tk.0) same tk.2)
      go e (inr (inr z)) = fin e z.0 z.1
