-- Pairs that surviving links join: how `within` spreads over them, what a link or a host that goes out takes from them. Assumes nothing.
use mathlib.Core.Path.{◌≡◌, refl, sym, ap, ap₂, ◌∙◌, subst}
use mathlib.Core.Bool.{Bool, true, false, ◌&&◌, ◌||◌}
use mathlib.Core.Logic.{◌⊎◌, inl, inr, ⊎_elim}
use Prim.Native.Nat.{ℕ, zero, suc, ◌<◌}
use native.Mathlib.Omega.{arith}
use borrow.Author.Tests.{eqb-true, eq-eqb, lt-ltb}
use lib.Dec.{eqb}
use Rattle.lists.specs.Searches.{some}
use Rattle.lists.proofs.Bools.{and_left_lem, and_right, or_true_left, or_true_right, or_cases}
use Rattle.lists.proofs.SearchLaws.{some_at, some_true, some_same}
use Rattle.lists.proofs.TestLaws.{all_each}
use Rattle.network.specs.Network.{n, m, link, survives, via, within}
use Rattle.network.specs.Inside.{Small, Pairs, is_pair, joins, next_to, spreads, Spreads, well, well_both}
use Rattle.network.specs.declared.Link.{Link}
use Rattle.network.specs.declared.Plan.{Plan}
use Rattle.network.specs.declared.Faults.{Faults}
use Rattle.network.proofs.Survivors.{Next, next}

-- tests that pass together are the same
pub iff : (s t : Bool) → (s ≡ true → t ≡ true) → (t ≡ true → s ≡ true) → s ≡ t
iff true t there back = sym (there refl)
iff false true there back = back refl
iff false false there back = refl

pub both : {s t : Bool} → s ≡ true → t ≡ true → (s && t) ≡ true
both e q = ap₂ (λ (s t : Bool). s && t) e q

-- the two ways in which a link joins a and b
unfoldable pub Ways : Link → ℕ → ℕ → Type 0
Ways l a b = ((a ≡ l.a) × (b ≡ l.b)) ⊎ ((b ≡ l.a) × (a ≡ l.b))

pub ways : (l : Link) (a b : ℕ) → joins l a b ≡ true → Ways l a b
unfolding joins Ways
ways l a b e =
    ⊎_elim (λ q. inl (eqb-true a _ (and_left_lem (eqb a l.a) _ q), eqb-true b _ (and_right (eqb a l.a) _ q)))
    (λ q. inr (eqb-true b _ (and_left_lem (eqb b l.a) _ q), eqb-true a _ (and_right (eqb b l.a) _ q))) (or_cases (eqb a l.a && eqb b l.b) _ e)

pub joined_by : (l : Link) (a b : ℕ) → Ways l a b → joins l a b ≡ true
unfolding joins Ways
joined_by l a b (inl (ea, eb)) = or_true_left _ _ (both (eq-eqb a l.a ea) (eq-eqb b l.b eb))
joined_by l a b (inr (eb, ea)) = or_true_right (eqb a l.a && eqb b l.b) _ (both (eq-eqb b l.a eb) (eq-eqb a l.b ea))

module _ (p : Plan) (small : Small p) where
  host_low : (i : ℕ) → i < m p → ((link p i).a < 8) × ((link p i).b < 8)
  host_low i h = let k = small.ends i h in let top = small.hosts in (omega arith, omega arith)

  -- one pair, one link
  pub joins_once : (i l a b : ℕ) → i < m p → l < m p → joins (link p i) a b ≡ true → joins (link p l) a b ≡ true → i ≡ l
  unfolding Ways is_pair
  joins_once i l a b hi hl ei el = go (ways (link p i) a b ei) (ways (link p l) a b el)
    where
      up : (link p i).a < (link p i).b
      up = (small.ends i hi).0

      up_l : (link p l).a < (link p l).b
      up_l = (small.ends l hl).0

      same : (link p i).a ≡ (link p l).a → (link p i).b ≡ (link p l).b → i ≡ l
      same ea eb = small.once i l hi hl (both (eq-eqb _ (link p l).a ea) (eq-eqb _ (link p l).b eb))

      go : Ways (link p i) a b → Ways (link p l) a b → i ≡ l
      go (inl (ea, eb)) (inl (fa, fb)) = same (sym ea ∙ fa) (sym eb ∙ fb)
      go (inr (eb, ea)) (inr (fb, fa)) = same (sym eb ∙ fb) (sym ea ∙ fa)
      go (inl (ea, eb)) (inr (fb, fa)) = absurd (omega (arith, up, up_l, ea, eb, fa, fb))
      go (inr (eb, ea)) (inl (fa, fb)) = absurd (omega (arith, up, up_l, ea, eb, fa, fb))

  module _ (f : Faults) where
    -- a link to a host of g is a host that is next, of g
    next_via : (g : ℕ → Bool) (a : ℕ) → some (m p) (via p f g a) ≡ some 8 (λ c. next_to p f a c && g c)
    unfolding via next_to Ways
    next_via g a = iff _ _ there back
      where
        next_at : (i c : ℕ) → i < m p → c < 8 → survives p f i ≡ true → Ways (link p i) a c → g c ≡ true → some 8 (λ c. next_to p f a c && g c) ≡ true
        next_at i c h hc on w q =
            some_true (λ c. next_to p f a c && g c) 8 c hc
            (both (some_true (λ i. survives p f i && joins (link p i) a c) (m p) i h (both on (joined_by (link p i) a c w))) q)

        there : some (m p) (via p f g a) ≡ true → some 8 (λ c. next_to p f a c && g c) ≡ true
        there e =
            let s = some_at (via p f g a) (m p) e in
            let l = link p s.0 in
            let on = and_left_lem (survives p f s.0) _ s.2 in
            let low = host_low s.0 s.1 in
            ⊎_elim
            (λ q. next_at s.0 l.a s.1 low.0 on (inr (refl, eqb-true a _ (and_right (g l.a) _ q))) (and_left_lem (g l.a) _ q))
            (λ q. next_at s.0 l.b s.1 low.1 on (inl (eqb-true a _ (and_right (g l.b) _ q), refl)) (and_left_lem (g l.b) _ q))
            (or_cases (g l.a && eqb a l.b) _ (and_right (survives p f s.0) _ s.2))

        way : (l : Link) (c : ℕ) → g c ≡ true → Ways l a c → (g l.a && eqb a l.b || g l.b && eqb a l.a) ≡ true
        way l c q (inl (ea, ec)) = or_true_right (g l.a && eqb a l.b) _ (both (subst (λ (x : ℕ). g x ≡ true) ec q) (eq-eqb a l.a ea))
        way l c q (inr (ec, ea)) = or_true_left _ _ (both (subst (λ (x : ℕ). g x ≡ true) ec q) (eq-eqb a l.b ea))

        back : some 8 (λ c. next_to p f a c && g c) ≡ true → some (m p) (via p f g a) ≡ true
        back e =
            let s = some_at (λ c. next_to p f a c && g c) 8 e in
            let c = s.0 in
            let o = some_at (λ i. survives p f i && joins (link p i) a c) (m p) (and_left_lem (next_to p f a c) _ s.2) in
            some_true (via p f g a) (m p) o.0 o.1
            (both (and_left_lem (survives p f o.0) _ o.2)
            (way (link p o.0) c (and_right (next_to p f a c) _ s.2) (ways (link p o.0) a c (and_right (survives p f o.0) _ o.2))))

    -- one link more spreads what is within reach
    pub within_spreads : (joined : ℕ) → Pairs joined (next_to p f) → Spreads joined (within p f)
    unfolding within spreads
    within_spreads joined is k a b ha hb =
        ap (λ (t : Bool). eqb a b || t)
        (next_via (λ c. within p f k c b) a ∙ some_same 8 _ _ (λ c hc. ap (λ (t : Bool). t && within p f k c b) (sym (is a c ha hc))))

    -- the ends of a surviving link are survivors, so two hosts that are within reach are
    pub ends_well : (i : ℕ) → i < m p → survives p f i ≡ true → (well p f.hosts (link p i).a ≡ true) × (well p f.hosts (link p i).b ≡ true)
    unfolding survives well
    ends_well i h e =
        let t = all_each _ e in
        let k = small.ends i h in
        (both (lt-ltb (link p i).a (n p) (omega arith)) t.1.0, both (lt-ltb (link p i).b (n p) k.1) t.1.1.0)

    pub within_well : (k a b : ℕ) → within p f k a b ≡ true → (a ≡ b) ⊎ (well_both p f.hosts a b ≡ true)
    unfolding within well_both
    within_well zero a b e = inl (eqb-true a b e)
    within_well (suc k) a b e = ⊎_elim inl (λ s. inr (step s (within_well k s.other b s.nearer))) (next p f k a b e)
      where
        ends_of : (s : Next p f k a b) → (well p f.hosts a ≡ true) × (well p f.hosts s.other ≡ true)
        ends_of s =
            let w = ends_well s.over s.link_there s.link_survives in
            ⊎_elim (λ q. (ap (well p f.hosts) q.0 ∙ w.0, ap (well p f.hosts) q.1 ∙ w.1))
            (λ q. (ap (well p f.hosts) q.0 ∙ w.1, ap (well p f.hosts) q.1 ∙ w.0)) s.joined

        step : (s : Next p f k a b) → (s.other ≡ b) ⊎ (well_both p f.hosts s.other b ≡ true) → well_both p f.hosts a b ≡ true
        step s (inl q) = let w = ends_of s in both w.0 (ap (well p f.hosts) (sym q) ∙ w.1)
        step s (inr q) = let w = ends_of s in both w.0 (and_right (well p f.hosts s.other) _ q)
