-- The accepted starts of a host, in a list that only the proof has: no two under one stamp, no five in a window, so no more than 32 held.
-- Assumes nothing.
use mathlib.Core.Path.{◌≡◌, refl, sym, ap, ◌∙◌, subst}
use mathlib.Core.Logic.{◌⊎◌, inl, inr}
use mathlib.Core.Bool.{true}
use mathlib.Core.List.{List, [], ◌∷◌, map}
use Prim.Native.Nat.{ℕ, zero, suc, ◌+◌, ◌*◌, ◌%◌, ◌≤◌, ◌<◌}
use native.Mathlib.Decide.{ℕ_discrete, dec_le, dec_lt}
use native.Mathlib.Omega.{arith}
use lib.ListN.{length, take}
use Rattle.lists.specs.Members.{In, All, Distinct}
use Rattle.lists.proofs.MemberLaws.{all_in, in_all, all_map, pigeon_all}
use Rattle.orders.specs.declared.Order.{Order}
use Rattle.orders.specs.Orders.{share_fits}
use Rattle.clock.specs.Clock.{largest_stamp}
use Rattle.network.specs.Network.{n}
use Rattle.network.specs.declared.Plan.{Plan}
use Rattle.diffusion.specs.Hosts.{Carried, Copy, Call, start, receive, Answer, refused, accepted, Host, after, Takes, IsStart, IsReceive, Before, Rising, SameName}
use Rattle.diffusion.specs.Run.{Story, reading, calls_at, room_at, run, Some, before, ticked, Starts-at}
use Rattle.diffusion.proofs.Laws.{Δ, W, Fourth, NoName, Laws, FirstRules, Timed}
use Rattle.diffusion.proofs.Life.{Begun, begun_takes, run_keeps, ok_ticked}

-- ---- lists of starts, the last first

abbrev pub stamps : List Carried → List ℕ
stamps g = map (λ x. x.stamp) g

abbrev pub Falling : ℕ → List Carried → Type 0
Falling W [] = Unit {0}
Falling W (x ∷ g) = All (λ y. y.stamp < x.stamp) g × Fourth W x.stamp (stamps g) × Falling W g

pub falling_unique : (W : ℕ) (g : List Carried) (x y : Carried) → Falling W g → In x g → In y g → x.stamp ≡ y.stamp → x ≡ y
falling_unique W [] x y f i j e = absurd i
falling_unique W (z ∷ g) x y f (inl i) (inl j) e = i ∙ sym j
falling_unique W (z ∷ g) x y f (inl i) (inr j) e =
    let l = all_in _ g f.0 y j in
    let k = ap (λ (w : Carried). w.stamp) i in absurd (omega (arith, l, k, e))
falling_unique W (z ∷ g) x y f (inr i) (inl j) e =
    let l = all_in _ g f.0 x i in
    let k = ap (λ (w : Carried). w.stamp) j in absurd (omega (arith, l, k, e))
falling_unique W (z ∷ g) x y f (inr i) (inr j) e = falling_unique W g x y f.2 i j e

-- four colours in turn
choose : {a b : ℕ} → Dec (a ≡ b) → ℕ → ℕ → ℕ
choose (yes e) x y = x
choose (no n) x y = y

colour : List Carried → Carried → ℕ
unfolding choose
colour [] y = 0
colour (x ∷ g) y = choose (ℕ_discrete x.stamp y.stamp) (length g % 4) (colour g y)

colour_here : (x y : Carried) (g : List Carried) → x.stamp ≡ y.stamp → colour (x ∷ g) y ≡ length g % 4
unfolding colour choose
colour_here x y g e = go (ℕ_discrete x.stamp y.stamp)
  where
    go : (h : Dec (x.stamp ≡ y.stamp)) → choose h (length g % 4) (colour g y) ≡ length g % 4
    go (yes i) = refl
    go (no n) = absurd (n e)

colour_there : (x y : Carried) (g : List Carried) → (x.stamp ≡ y.stamp → ⊥) → colour (x ∷ g) y ≡ colour g y
unfolding colour choose
colour_there x y g ne = go (ℕ_discrete x.stamp y.stamp)
  where
    go : (h : Dec (x.stamp ≡ y.stamp)) → choose h (length g % 4) (colour g y) ≡ colour g y
    go (yes i) = absurd (ne i)
    go (no n) = refl

colour_below : (g : List Carried) (y : Carried) → colour g y < 4
unfolding colour choose
colour_below [] y = omega arith
colour_below (x ∷ g) y = go (colour_below g y) (ℕ_discrete x.stamp y.stamp)
  where
    go : colour g y < 4 → (h : Dec (x.stamp ≡ y.stamp)) → choose h (length g % 4) (colour g y) < 4
    go ih (yes i) = omega arith
    go ih (no n) = ih

-- an order less than W before a start has another colour than that start gets
near : (W X : ℕ) (g : List Carried) (y : Carried) → Falling W g → Fourth W X (stamps g) → In y g → X < y.stamp + W → colour g y ≡ length g % 4 → ⊥
near W X [] y f r i l e = absurd i
near W X (a ∷ g) y f r (inl i) l e =
    let c = colour_here a y g (ap (λ (w : Carried). w.stamp) (sym i)) in omega (arith, c, e)
near W X (a ∷ []) y f r (inr i) l e = absurd i
near W X (a ∷ b ∷ g) y f r (inr (inl i)) l e =
    let s = ap (λ (w : Carried). w.stamp) i in
    let lt = f.0.0 in
    let c₁ = colour_there a y (b ∷ g) (λ (q : a.stamp ≡ y.stamp). omega (arith, s, lt, q)) in
    let c₂ = colour_here b y g (sym s) in omega (arith, c₁, c₂, e)
near W X (a ∷ b ∷ []) y f r (inr (inr i)) l e = absurd i
near W X (a ∷ b ∷ c ∷ g) y f r (inr (inr (inl i))) l e =
    let s = ap (λ (w : Carried). w.stamp) i in
    let lt = f.0.1.0 in
    let lt' = f.2.0.0 in
    let c₁ = colour_there a y (b ∷ c ∷ g) (λ (q : a.stamp ≡ y.stamp). omega (arith, s, lt, q)) in
    let c₂ = colour_there b y (c ∷ g) (λ (q : b.stamp ≡ y.stamp). omega (arith, s, lt', q)) in
    let c₃ = colour_here c y g (sym s) in omega (arith, c₁, c₂, c₃, e)
near W X (a ∷ b ∷ c ∷ []) y f r (inr (inr (inr i))) l e = absurd i
near W X (a ∷ b ∷ c ∷ z ∷ g) y f r (inr (inr (inr (inl i)))) l e =
    let s = ap (λ (w : Carried). w.stamp) i in omega (arith, s, r, l)
near W X (a ∷ b ∷ c ∷ z ∷ g) y f r (inr (inr (inr (inr i)))) l e =
    let lt = all_in _ g f.2.2.2.0 y i in omega (arith, lt, r, l)

colours_differ : (W : ℕ) (g : List Carried) (y z : Carried) → Falling W g → In y g → In z g → y.stamp < z.stamp → z.stamp < y.stamp + W → colour g y ≡ colour g z → ⊥
colours_differ W [] y z f i j l w e = i
colours_differ W (x ∷ g) y z f (inl i) (inl j) l w e =
    let a = ap (λ (w : Carried). w.stamp) i in
    let b = ap (λ (w : Carried). w.stamp) j in omega (arith, a, b, l)
colours_differ W (x ∷ g) y z f (inl i) (inr j) l w e =
    let a = ap (λ (w : Carried). w.stamp) i in
    let b = all_in _ g f.0 z j in omega (arith, a, b, l)
colours_differ W (x ∷ g) y z f (inr i) (inl j) l w e =
    let b = ap (λ (w : Carried). w.stamp) j in
    let a = all_in _ g f.0 y i in
    let c₁ = colour_there x y g (λ (q : x.stamp ≡ y.stamp). omega (arith, a, q)) in
    let c₂ = colour_here x z g (sym b) in
    near W x.stamp g y f.2 f.1 i (omega (arith, b, w)) (omega (arith, c₁, c₂, e))
colours_differ W (x ∷ g) y z f (inr i) (inr j) l w e =
    let a = all_in _ g f.0 y i in
    let b = all_in _ g f.0 z j in
    let c₁ = colour_there x y g (λ (q : x.stamp ≡ y.stamp). omega (arith, a, q)) in
    let c₂ = colour_there x z g (λ (q : x.stamp ≡ z.stamp). omega (arith, b, q)) in
    colours_differ W g y z f.2 i j l w (omega (arith, c₁, c₂, e))

-- ---- at most 32

abbrev pub NamesDiffer : List Carried → Type 0
NamesDiffer [] = Unit {0}
NamesDiffer (x ∷ l) = NoName l x × NamesDiffer l

pub rising_differ : (l : List Carried) → Rising l → NamesDiffer l
rising_differ [] r = tt
rising_differ (x ∷ l) r = ((λ y i e. go y e (all_in _ l r.0 y i)), rising_differ l r.1)
  where
    go : (y : Carried) → SameName y x → Before x y → ⊥
    go y e (inl h) = let a = e.0 in omega (arith, a, h)
    go y e (inr h) = let a = e.1 in let c = h.1 in omega (arith, a, c)

module _ (W n : ℕ) (gs : ℕ → List Carried) (fall : (s : ℕ) → s < n → Falling W (gs s)) where
  code : Carried → ℕ
  code y = 4 * y.source + colour (gs y.source) y

  Fit : Carried → Type 0
  Fit y = (y.source < n) × In y (gs y.source)

  codes_differ : (y z : Carried) → Fit y → Fit z → y.stamp < z.stamp + W → z.stamp < y.stamp + W → code y ≡ code z → SameName y z
  unfolding code Fit
  codes_differ y z fy fz l m e = (stamps_same (dec_lt y.stamp z.stamp) (dec_lt z.stamp y.stamp), s)
    where
      s : y.source ≡ z.source
      s = let a = colour_below (gs y.source) y in let c = colour_below (gs z.source) z in omega (arith, a, c, e)

      c : colour (gs y.source) y ≡ colour (gs y.source) z
      c = let q = ap (λ k. colour (gs k) z) s in omega (arith, e, s, q)

      iz : In z (gs y.source)
      iz = subst (λ k. In z (gs k)) (sym s) fz.1

      stamps_same : Dec (y.stamp < z.stamp) → Dec (z.stamp < y.stamp) → y.stamp ≡ z.stamp
      stamps_same (yes h) k = absurd (colours_differ W (gs y.source) y z (fall y.source fy.0) fy.1 iz h m c)
      stamps_same (no h) (yes k) = absurd (colours_differ W (gs y.source) z y (fall y.source fy.0) iz fy.1 k l (sym c))
      stamps_same (no h) (no k) = omega (arith, h, k)

  not_in : (x : Carried) (l : List Carried) → NoName l x → Fit x → All Fit l → ((y : Carried) → In y l → (y.stamp < x.stamp + W) × (x.stamp < y.stamp + W)) → In (code x) (map code l) → ⊥
  not_in x [] nn fx fl w i = i
  not_in x (y ∷ l) nn fx fl w (inl e) =
      let q = w y (inl refl) in
      nn y (inl refl) (codes_differ y x fl.0 fx q.0 q.1 (sym e))
  not_in x (y ∷ l) nn fx fl w (inr i) = not_in x l (λ z j. nn z (inr j)) fx fl.1 (λ z j. w z (inr j)) i

  distinct_codes : (l : List Carried) → NamesDiffer l → All Fit l → ((x y : Carried) → In x l → In y l → x.stamp < y.stamp + W) → Distinct (map code l)
  distinct_codes [] nd fl w = tt
  distinct_codes (x ∷ l) nd fl w =
      (not_in x l nd.0 fl.0 fl.1 (λ y i. (w y x (inr i) (inl refl), w x y (inl refl) (inr i))), distinct_codes l nd.1 fl.1 (λ y z i j. w y z (inr i) (inr j)))

  codes_below : (l : List Carried) → All Fit l → All (λ k. k < 4 * n) (map code l)
  unfolding code Fit
  codes_below [] a = tt
  codes_below (x ∷ l) a = ((let c = colour_below (gs x.source) x in let s = a.0.0 in omega (arith, c, s)), codes_below l a.1)

  map_length : (l : List Carried) → length (map code l) ≡ length l
  map_length [] = refl
  map_length (x ∷ l) = ap suc (map_length l)

  pub few : (l : List Carried) → NamesDiffer l → ((y : Carried) → In y l → (y.source < n) × In y (gs y.source))
      → ((x y : Carried) → In x l → In y l → x.stamp < y.stamp + W) → length l ≤ 4 * n
  unfolding Fit
  few l nd f w =
      let fl = in_all Fit l f in
      let c = pigeon_all (4 * n) (map code l) (distinct_codes l nd fl w) (codes_below l fl) in
      let e = map_length l in omega (arith, c, e)

-- ---- the starts of a run

pub fourth_take : (W U : ℕ) (l : List ℕ) → Fourth W U (take 4 l) → Fourth W U l
fourth_take W U [] h = h
fourth_take W U (a ∷ []) h = h
fourth_take W U (a ∷ b ∷ []) h = h
fourth_take W U (a ∷ b ∷ c ∷ []) h = h
fourth_take W U (a ∷ b ∷ c ∷ e ∷ l) h = h

take_take : (a : ℕ) (l : List ℕ) → take 4 (a ∷ take 4 l) ≡ take 4 (a ∷ l)
take_take a [] = refl
take_take a (b ∷ []) = refl
take_take a (b ∷ c ∷ []) = refl
take_take a (b ∷ c ∷ e ∷ []) = refl
take_take a (b ∷ c ∷ e ∷ f ∷ l) = refl

pub all_below : (W U : ℕ) (g : List Carried) → Falling W g → All (λ a. a < U) (take 4 (stamps g)) → All (λ y. y.stamp < U) g
all_below W U [] f h = tt
all_below W U (x ∷ g) f h = (h.0, all_map _ _ (λ y l. (let k = h.0 in omega (arith, l, k))) g f.0)

module _ (P : Plan) (H : Host) (L : Laws P H) (B : FirstRules P H L) where
  note : Call → Answer H.State → List Carried → List Carried
  note (receive k m) a g = g
  note (start o) (refused r) g = g
  note (start o) (accepted s x on hop) g = x ∷ g

  begun : ℕ → H.State → List Call → List Carried → List Carried
  begun U s [] g = g
  begun U s (c ∷ cs) g = begun U (after (H.call U s c) s) cs (note c (H.call U s c) g)

  -- the list and the state agree
  pub record Agrees (p U : ℕ) (s : H.State) (g : List Carried) : Type 0 where
    pub ok : L.Ok p U s
    pub last_four : H.starts s ≡ take 4 (stamps g)
    pub falling : Falling (W P) g
    pub none_above : All (λ y. y.stamp ≤ U) g
    pub own : (y : Carried) → In y (H.held s) → y.source ≡ p → In y g

  grows : (c : Call) (a : Answer H.State) (g : List Carried) (y : Carried) → In y g → In y (note c a g)
  unfolding note
  grows (receive k m) a g y i = i
  grows (start o) (refused r) g y i = i
  grows (start o) (accepted s x on hop) g y i = inr i

  agrees_start : (p U : ℕ) (s : H.State) (g : List Carried) (o : Order) → Agrees p U s g → (a : Answer H.State) → L.Ok p U (after a s)
      → ((x : Carried) → Takes a x → H.starts (after a s) ≡ take 4 (U ∷ H.starts s))
      → ((x : Carried) → Takes a x → (x ≡ record { stamp = U; source = p; order = o }) × (U ≤ largest_stamp) × (share_fits o ≡ true) × All (λ a. a < U) (H.starts s) × Fourth (W P) U (H.starts s))
      → ((y : Carried) → In y (H.held (after a s)) → Takes a y ⊎ In y (H.held s))
      → Agrees p U (after a s) (note (start o) a g)
  unfolding note
  agrees_start p U s g o A (refused r) ok f t h = A
  agrees_start p U s g o A (accepted s' x on hop) ok f t h =
      let r = t x refl in
      let e : x.stamp ≡ U = ap (λ (z : Carried). z.stamp) r.0 in
      record {
        ok = ok;
        last_four = f x refl ∙ ap (λ l. take 4 (U ∷ l)) A.last_four ∙ take_take U (stamps g) ∙ ap (λ z. take 4 (z ∷ stamps g)) (sym e);
        falling = (
          subst (λ z. All (λ y. y.stamp < z) g) (sym e) (all_below (W P) U g A.falling (subst (All (λ a. a < U)) A.last_four r.3)),
          subst (λ z. Fourth (W P) z (stamps g)) (sym e) (fourth_take (W P) U (stamps g) (subst (Fourth (W P) U) A.last_four r.4)),
          A.falling,
        );
        none_above = ((omega (arith, e)), A.none_above);
        own = λ y i q. owned y q (h y i);
      }
    where
      owned : (y : Carried) → y.source ≡ p → (y ≡ x) ⊎ In y (H.held s) → In y (x ∷ g)
      owned y q (inl e) = inl e
      owned y q (inr i) = inr (A.own y i q)

  agrees_call : (p U : ℕ) (s : H.State) (g : List Carried) (c : Call) → Agrees p U s g → Agrees p U (after (H.call U s c) s) (note c (H.call U s c) g)
  unfolding note
  agrees_call p U s g (start o) A =
      agrees_start p U s g o A (H.call U s (start o)) (L.ok_call p U s (start o) A.ok) (λ x k. L.starts_start p U s o x A.ok k) (λ x. L.take_start p U s o x A.ok) (L.call_held U s (start o))
  agrees_call p U s g (receive k m) A = record {
    ok = L.ok_call p U s (receive k m) A.ok;
    last_four = L.starts_receive U s k m ∙ A.last_four;
    falling = A.falling;
    none_above = A.none_above;
    own = λ y i q. owned y q (L.call_held U s (receive k m) y i);
  }
    where
      owned : (y : Carried) → y.source ≡ p → Takes (H.call U s (receive k m)) y ⊎ In y (H.held s) → In y g
      owned y q (inl t) = let r = B.take_receive p U s k m y A.ok t in absurd (r.4 q)
      owned y q (inr i) = A.own y i q

  agrees_run : (p U : ℕ) (s : H.State) (cs : List Call) (g : List Carried) → Agrees p U s g → Agrees p U (run H U s cs) (begun U s cs g)
  unfolding run begun
  agrees_run p U s [] g A = A
  agrees_run p U s (c ∷ cs) g A = agrees_run p U (after (H.call U s c) s) cs (note c (H.call U s c) g) (agrees_call p U s g c A)

  begun_keeps : (U : ℕ) (s : H.State) (cs : List Call) (g : List Carried) (y : Carried) → In y g → In y (begun U s cs g)
  unfolding begun
  begun_keeps U s [] g y i = i
  begun_keeps U s (c ∷ cs) g y i = begun_keeps U (after (H.call U s c) s) cs (note c (H.call U s c) g) y (grows c (H.call U s c) g y i)

  noted : (p U : ℕ) (c : Call) (a : Answer H.State) (g : List Carried) (y : Carried) → IsStart p U y c → Takes a y → In y (note c a g)
  unfolding note
  noted p U (receive k m) a g y i t = absurd i
  noted p U (start o) (refused r) g y i t = absurd t
  noted p U (start o) (accepted s x on hop) g y i t = inl t

  begun_has : (p U : ℕ) (s : H.State) (cs : List Call) (g : List Carried) (y : Carried) → L.Ok p U s → Some H (Begun P H L B p U y) U s cs → In y (begun U s cs g)
  unfolding begun Some
  begun_has p U s [] g y ok h = absurd h
  begun_has p U s (c ∷ cs) g y ok (inl h) =
      begun_keeps U (after (H.call U s c) s) cs (note c (H.call U s c) g) y (noted p U c (H.call U s c) g y h.0 (begun_takes P H L B p U y s c ok h))
  begun_has p U s (c ∷ cs) g y ok (inr h) = begun_has p U (after (H.call U s c) s) cs (note c (H.call U s c) g) y (L.ok_call p U s c ok) h

  -- a call that happens, with the state and the list of starts that it met
  pub record Met (Q : H.State → Call → Type 0) (p U : ℕ) (s : H.State) (cs : List Call) : Type 0 where
    pub state : H.State
    pub this : Call
    pub list : List Carried
    pub agreed : Agrees p U state list
    pub holds : Q state this
    pub from : (y : Carried) → In y (H.held s) → In y (H.held state)
    pub on : (y : Carried) → In y (H.held state) → In y (H.held (run H U s cs))
    pub taken : (y : Carried) → Takes (H.call U state this) y → Some H (λ s c. Takes (H.call U s c) y) U s cs
    pub handed : (k : ℕ) (m : Copy) → IsReceive k m this → Some H (λ s c. IsReceive k m c) U s cs

  pub meet : (Q : H.State → Call → Type 0) (p U : ℕ) (s : H.State) (cs : List Call) (g : List Carried) → Agrees p U s g → Some H Q U s cs → Met Q p U s cs
  unfolding Some run
  meet Q p U s [] g A h = absurd h
  meet Q p U s (c ∷ cs) g A (inl h) = record {
    state = s;
    this = c;
    list = g;
    agreed = A;
    holds = h;
    from = λ y i. i;
    on = λ y i. run_keeps P H L B U (after (H.call U s c) s) cs y (L.call_keeps U s c y i);
    taken = λ y t. inl t;
    handed = λ k m i. inl i;
  }
  meet Q p U s (c ∷ cs) g A (inr h) =
      let r = meet Q p U (after (H.call U s c) s) cs (note c (H.call U s c) g) (agrees_call p U s g c A) h in
      record {
        state = r.state;
        this = r.this;
        list = r.list;
        agreed = r.agreed;
        holds = r.holds;
        from = λ y i. r.from y (L.call_keeps U s c y i);
        on = r.on;
        taken = λ y t. inr (r.taken y t);
        handed = λ k m i. inr (r.handed k m i);
      }

  module _ (R : Story) (M : Timed P H R) (b : 1 ≤ Δ P) where
    -- the starts that host p accepted before tick t
    pub starts_of_lem : ℕ → ℕ → List Carried
    unfolding begun
    starts_of_lem p zero = []
    starts_of_lem p (suc t) = begun (reading R p t) (ticked H R p t) (calls_at R p t) (starts_of_lem p t)

    tick_agrees : (p U room : ℕ) (s : H.State) (g : List Carried) → Agrees p U s g → Agrees p U (H.tick U room s) g
    tick_agrees p U room s g A = record {
      ok = L.ok_tick p U room s A.ok;
      last_four = L.starts_tick U room s ∙ A.last_four;
      falling = A.falling;
      none_above = A.none_above;
      own = λ y i q. A.own y (L.tick_adds_none U room s y i) q;
    }

    pub agrees : (p t : ℕ) → p < n P → Agrees p (reading R p t) (before H R p t) (starts_of_lem p t)
    unfolding before starts_of_lem
    agrees p zero h = record {
      ok = L.ok_fresh p (reading R p zero) h;
      last_four = L.starts_fresh p;
      falling = tt;
      none_above = tt;
      own = λ y i q. absurd (L.held_fresh p y i);
    }
    agrees p (suc t) h =
        let A = agrees_run p (reading R p t) (ticked H R p t) (calls_at R p t) (starts_of_lem p t) (tick_agrees p (reading R p t) (room_at R p t) (before H R p t) (starts_of_lem p t) (agrees p t h)) in
        let l = M.steady p t in
        record {
          ok = L.ok_later p (reading R p t) (reading R p (suc t)) _ l A.ok;
          last_four = A.last_four;
          falling = A.falling;
          none_above = all_map {A = Carried} (λ y. y.stamp ≤ reading R p t) (λ y. y.stamp ≤ reading R p (suc t)) (λ y k. omega (arith, k, l)) (starts_of_lem p (suc t)) A.none_above;
          own = A.own;
        }

    pub agrees_ticked : (p t : ℕ) → p < n P → Agrees p (reading R p t) (ticked H R p t) (starts_of_lem p t)
    agrees_ticked p t h = tick_agrees p (reading R p t) (room_at R p t) (before H R p t) (starts_of_lem p t) (agrees p t h)

    pub in_starts : (p t : ℕ) (x : Carried) → p < n P → Starts-at H R p t x → In x (starts_of_lem p (suc t))
    unfolding starts_of_lem
    in_starts p t x hp h = begun_has p (reading R p t) (ticked H R p t) (calls_at R p t) (starts_of_lem p t) x (ok_ticked P H L B R M b p t hp) h

    pub stay_starts : (p t u : ℕ) (x : Carried) → t ≤ u → In x (starts_of_lem p t) → In x (starts_of_lem p u)
    unfolding starts_of_lem
    stay_starts p t zero x l i = subst (λ z. In x (starts_of_lem p z)) {x = t} {y = zero} (omega (arith, l)) i
    stay_starts p t (suc u) x l i = go (λ l'. stay_starts p t u x l' i) (dec_le t u)
      where
        go : (t ≤ u → In x (starts_of_lem p u)) → Dec (t ≤ u) → In x (starts_of_lem p (suc u))
        go ih (yes l') = begun_keeps (reading R p u) (ticked H R p u) (calls_at R p u) (starts_of_lem p u) x (ih l')
        go ih (no n) = subst (λ z. In x (starts_of_lem p z)) {x = t} {y = suc u} (omega (arith, n, l)) i

    -- a host starts one order at most under one stamp
    pub one_start : (p t u : ℕ) (x y : Carried) → p < n P → Starts-at H R p t x → Starts-at H R p u y → x.stamp ≡ y.stamp → x ≡ y
    one_start p t u x y h i j e = falling_unique (W P) (starts_of_lem p (suc (t + u))) x y (agrees p (suc (t + u)) h).falling
        (stay_starts p (suc t) (suc (t + u)) x (omega arith) (in_starts p t x h i)) (stay_starts p (suc u) (suc (t + u)) y (omega arith) (in_starts p u y h j)) e

    pub met : (Q : H.State → Call → Type 0) (p t : ℕ) → p < n P → Some H Q (reading R p t) (ticked H R p t) (calls_at R p t)
        → Met Q p (reading R p t) (ticked H R p t) (calls_at R p t)
    met Q p t h k = meet Q p (reading R p t) (ticked H R p t) (calls_at R p t) (starts_of_lem p t) (agrees_ticked p t h) k
