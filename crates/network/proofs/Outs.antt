-- What a link or a host that goes out changes: the pairs that surviving links join, the pairs of survivors, and the diameter. Assumes nothing.
use mathlib.Core.Path.{◌≡◌, refl, sym, ap, ap₂, ◌∙◌}
use mathlib.Core.Bool.{Bool, true, false, not, ◌&&◌, ◌||◌, true≢false, and-true}
use mathlib.Core.Logic.{⊎_elim, inl}
use Prim.Native.Nat.{ℕ, ◌+◌, ◌-◌, ◌^◌, ◌≤◌, ◌<◌}
use native.Mathlib.Nat.{le_trans, le_of_eq}
use native.Mathlib.Omega.{arith}
use borrow.Author.Tests.{eqb-true, eq-eqb, leb-true, le-leb, not-true}
use lib.Dec.{eqb, leb, ltb}
use lib.Bits.{bit_and, bit_or}
use lib.Count.{ones}
use Rattle.lists.specs.Tests.{all_of}
use Rattle.lists.proofs.Bools.{false_unless, and_left_lem, and_right, then_le}
use Rattle.lists.proofs.SearchLaws.{some_at, some_true, some_false}
use Rattle.lists.proofs.TestLaws.{all_each, each_all}
use Rattle.network.specs.Network.{n, m, L, link, has, survives, diameter}
use Rattle.network.specs.Inside.{Small, pair, Pairs, joins, linked, next_to, well, well_both, wanted, at_links}
use Rattle.network.specs.declared.Plan.{Plan}
use Rattle.network.specs.declared.Faults.{Faults}
use Rattle.network.proofs.Bits.{has_none, has_and, has_or, has_not, has_plus, ones_plus}
use Rattle.network.proofs.PairLaws.{itself}
use Rattle.network.proofs.Survivors.{then_most}
use Rattle.network.proofs.Nexts.{iff, both, Ways, ways, joined_by, joins_once, ends_well}
use Rattle.network.proofs.Diameters.{diameter_same}

-- the pairs of one set that are not in another
less : (s t : ℕ) (u v : ℕ → ℕ → Bool) → t < 2 ^ 64 → Pairs s u → Pairs t v → Pairs (bit_and s ((2 ^ 64 - 1) - t)) (λ a b. u a b && not (v a b))
less s t u v h is it a b ha hb =
    has_and s _ (pair a b) ∙ ap₂ (λ (x y : Bool). x && y) (is a b ha hb) (has_not 64 t (pair a b) h (omega arith) ∙ ap not (it a b ha hb))

-- where no host is out, all are survivors
pub all_well : (p : Plan) (square : ℕ) → Pairs square (λ a b. ltb a (n p) && ltb b (n p)) → Pairs square (well_both p 0)
unfolding well_both well
all_well p square is a b ha hb = is a b ha hb ∙ ap₂ (λ (s t : Bool). s && t) (sym (here a)) (sym (here b))
  where
    here : (c : ℕ) → (ltb c (n p) && not (has 0 c)) ≡ ltb c (n p)
    here c = ap (λ (t : Bool). ltb c (n p) && not t) (has_none c) ∙ and-true (ltb c (n p))

module _ (p : Plan) (small : Small p) (hs : ℕ) where
  out : ℕ → Faults
  out ls = record { hosts = hs; links = ls }

  module _ (l : ℕ) (there : l < m p) where
    -- a link that goes out survives no longer, and the others do as before
    survives_out : (x i : ℕ) → has x l ≡ false → survives p (out (x + 2 ^ l)) i ≡ (not (eqb i l) && survives p (out x) i)
    unfolding survives all_of out
    survives_out x i e = ap (λ (t : Bool). not t && rest) (has_plus l x i e) ∙ apart (eqb i l) (has x i) rest
      where
        rest : Bool
        rest = not (has hs (link p i).a) && (not (has hs (link p i).b) && true)

        apart : (s t u : Bool) → (not (s || t) && u) ≡ (not s && (not t && u))
        apart true t u = refl
        apart false t u = refl

    -- the pairs that it joins go with it, as no other link joins them
    link_out : (x t a b : ℕ) → t ≡ 2 ^ l → has x l ≡ false
        → (next_to p (record { hosts = hs; links = x }) a b && not (joins (link p l) a b)) ≡ next_to p (record { hosts = hs; links = x + t }) a b
    unfolding next_to out
    link_out x t a b q e = iff _ _ fore back ∙ ap (λ (y : ℕ). next_to p (out (x + y)) a b) (sym q)
      where
        fore : (next_to p (out x) a b && not (joins (link p l) a b)) ≡ true → next_to p (out (x + 2 ^ l)) a b ≡ true
        fore h =
            let s = some_at (λ i. survives p (out x) i && joins (link p i) a b) (m p) (and_left_lem (next_to p (out x) a b) _ h) in
            let i = s.0 in
            let by = and_right (survives p (out x) i) _ s.2 in
            let other : eqb i l ≡ false =
            false_unless (eqb i l) (λ z. true≢false (sym by ∙ ap (λ (y : ℕ). joins (link p y) a b) (eqb-true i l z) ∙ not-true _ (and_right (next_to p (out x) a b) _ h))) in
            some_true (λ i. survives p (out (x + 2 ^ l)) i && joins (link p i) a b) (m p) i s.1
            (both (survives_out x i e ∙ both (ap not other) (and_left_lem (survives p (out x) i) _ s.2)) by)

        back : next_to p (out (x + 2 ^ l)) a b ≡ true → (next_to p (out x) a b && not (joins (link p l) a b)) ≡ true
        back h =
            let s = some_at (λ i. survives p (out (x + 2 ^ l)) i && joins (link p i) a b) (m p) h in
            let i = s.0 in
            let by = and_right (survives p (out (x + 2 ^ l)) i) _ s.2 in
            let on = sym (survives_out x i e) ∙ and_left_lem (survives p (out (x + 2 ^ l)) i) _ s.2 in
            let other = not-true _ (and_left_lem (not (eqb i l)) _ on) in
            both (some_true (λ i. survives p (out x) i && joins (link p i) a b) (m p) i s.1 (both (and_right (not (eqb i l)) _ on) by))
            (ap not (false_unless (joins (link p l) a b) (λ z. true≢false (sym (eq-eqb i l (joins_once p small i l a b s.1 there by z)) ∙ other))))

    pub link_less : (x t joined pairs : ℕ) → t ≡ 2 ^ l → has x l ≡ false → pairs < 2 ^ 64 → Pairs joined (next_to p (record { hosts = hs; links = x })) → Pairs pairs (joins (link p l))
        → Pairs (bit_and joined ((2 ^ 64 - 1) - pairs)) (next_to p (record { hosts = hs; links = x + t }))
    link_less x t joined pairs q e h is it a b ha hb = less joined pairs _ _ h is it a b ha hb ∙ link_out x t a b q e

    -- a link that joins no survivors has a faulty end, so that it is gone whatever links are out
    dead : (x : ℕ) → has x l ≡ false → next_to p (out x) (link p l).a (link p l).b ≡ false → (y : ℕ) → survives p (out y) l ≡ false
    unfolding survives next_to out Ways
    dead x e none y =
        false_unless (survives p (out y) l) (λ z.
        let t = all_each _ z in
        let on : survives p (out x) l ≡ true = each_all _ (ap not e, (t.1.0, (t.1.1.0, tt))) in
        true≢false
        (sym (both on (joined_by (link p l) (link p l).a (link p l).b (inl (refl, refl))))
        ∙ some_false (λ i. survives p (out x) i && joins (link p i) (link p l).a (link p l).b) (m p) none l there))

    -- so with it out nothing is larger
    pub not_tried : ((y : ℕ) → survives p (record { hosts = hs; links = y }) l ≡ false) → (x : ℕ) → has x l ≡ false → at_links p hs (x + 2 ^ l) ≤ at_links p hs x
    unfolding out
    not_tried off x e =
        then_le (leb (ones (x + 2 ^ l)) (L p)) (λ few.
        let more = ones_plus l x e in
        let fewer : ones x ≤ L p = let h = leb-true (ones (x + 2 ^ l)) (L p) few in omega (arith, more, h) in
        le_trans (le_of_eq (diameter_same p hs (x + 2 ^ l) x (λ i h. survives_out x i e ∙ go i (eqb i l) refl))) (then_most (diameter p (out x)) (le-leb (ones x) (L p) fewer)))
      where
        go : (i : ℕ) (t : Bool) → eqb i l ≡ t → (not t && survives p (out x) i) ≡ survives p (out x) i
        go i true z = sym (ap (survives p (out x)) (eqb-true i l z) ∙ off x)
        go i false z = refl

    pub dead_link : (joined all : ℕ) (x : ℕ) → (link p l).a < 8 → (link p l).b < 8 → has x l ≡ false → Pairs joined (next_to p (record { hosts = hs; links = x }))
        → Pairs all (joins (link p l)) → bit_and joined all ≡ 0 → (y : ℕ) → survives p (record { hosts = hs; links = y }) l ≡ false
    unfolding out Ways
    dead_link joined all x la lb e is it none =
        dead x e
        (sym (is _ _ la lb) ∙ sym (and_true_is (has joined at) _ (it _ _ la lb ∙ joined_by (link p l) (link p l).a (link p l).b (inl (refl, refl)))) ∙ sym (has_and joined all at) ∙ ap (λ (s : ℕ). has s at) none ∙ has_none at)
      where
        at : ℕ
        at = pair (link p l).a (link p l).b

        and_true_is : (s t : Bool) → t ≡ true → (s && t) ≡ s
        and_true_is true t q = q
        and_true_is false t q = refl

  -- ---- hosts

  -- where no link is out, the links that survive join survivors
  pub links_left : (a b : ℕ) → (linked p a b && well_both p hs a b) ≡ next_to p (record { hosts = hs; links = 0 }) a b
  unfolding linked next_to well_both well survives out Ways
  links_left a b = iff _ _ fore back
    where
      survivor : (c d : ℕ) → c ≡ d → well p hs c ≡ true → not (has hs d) ≡ true
      survivor c d q w = ap (λ (x : ℕ). not (has hs x)) (sym q) ∙ and_right (ltb c (n p)) _ w

      fore : (linked p a b && well_both p hs a b) ≡ true → next_to p (out 0) a b ≡ true
      fore h =
          let s = some_at (λ i. joins (link p i) a b) (m p) (and_left_lem (linked p a b) _ h) in
          let w = and_right (linked p a b) _ h in
          let wa = and_left_lem (well p hs a) _ w in
          let wb = and_right (well p hs a) _ w in
          let l = link p s.0 in
          let on : (not (has hs l.a) ≡ true) × (not (has hs l.b) ≡ true) =
          ⊎_elim (λ q. (survivor a l.a q.0 wa, survivor b l.b q.1 wb)) (λ q. (survivor b l.a q.0 wb, survivor a l.b q.1 wa)) (ways l a b s.2) in
          some_true (λ i. survives p (out 0) i && joins (link p i) a b) (m p) s.0 s.1 (both (each_all _ (ap not (has_none s.0), (on.0, (on.1, tt)))) s.2)

      back : next_to p (out 0) a b ≡ true → (linked p a b && well_both p hs a b) ≡ true
      back h =
          let s = some_at (λ i. survives p (out 0) i && joins (link p i) a b) (m p) h in
          let by = and_right (survives p (out 0) s.0) _ s.2 in
          let w = ends_well p small (out 0) s.0 s.1 (and_left_lem (survives p (out 0) s.0) _ s.2) in
          both (some_true (λ i. joins (link p i) a b) (m p) s.0 s.1 by)
          (⊎_elim (λ q. both (ap (well p hs) q.0 ∙ w.0) (ap (well p hs) q.1 ∙ w.1)) (λ q. both (ap (well p hs) q.1 ∙ w.1) (ap (well p hs) q.0 ∙ w.0))
          (ways (link p s.0) a b by))

  -- a host that goes out takes the pairs that it is in
  host_out : (l t a b : ℕ) → t ≡ 2 ^ l → has hs l ≡ false → (well_both p hs a b && not (eqb a l || eqb b l)) ≡ well_both p (hs + t) a b
  unfolding well_both well
  host_out l t a b q e =
      four (well p hs a) (well p hs b) (eqb a l) (eqb b l)
      ∙ ap₂ (λ (u v : Bool). u && v) (one (ltb a (n p)) (has hs a) (eqb a l)) (one (ltb b (n p)) (has hs b) (eqb b l))
      ∙ ap₂ (λ (u v : Bool). (ltb a (n p) && not u) && (ltb b (n p) && not v)) (sym (has_plus l hs a e)) (sym (has_plus l hs b e))
      ∙ ap (λ (y : ℕ). (ltb a (n p) && not (has (hs + y) a)) && (ltb b (n p) && not (has (hs + y) b))) (sym q)
    where
      four : (s t c d : Bool) → ((s && t) && not (c || d)) ≡ ((s && not c) && (t && not d))
      four false t c d = refl
      four true false true d = refl
      four true false false d = refl
      four true true true d = refl
      four true true false d = refl

      one : (s u c : Bool) → ((s && not u) && not c) ≡ (s && not (c || u))
      one false u c = refl
      one true true true = refl
      one true false true = refl
      one true true false = refl
      one true false false = refl

  pub host_less : (l t survivors pairs : ℕ) → t ≡ 2 ^ l → has hs l ≡ false → pairs < 2 ^ 64 → Pairs survivors (well_both p hs) → Pairs pairs (λ a b. eqb a l || eqb b l)
      → Pairs (bit_and survivors ((2 ^ 64 - 1) - pairs)) (well_both p (hs + t))
  host_less l t survivors pairs q e h is it a b ha hb = less survivors pairs _ _ h is it a b ha hb ∙ host_out l t a b q e

  -- the sets that the search over links starts with
  pub all_wanted : (survivors : ℕ) → Pairs survivors (well_both p hs) → Pairs (bit_or survivors 9241421688590303745) (wanted p hs)
  unfolding wanted
  all_wanted survivors is a b ha hb = has_or survivors _ (pair a b) ∙ ap₂ (λ (s t : Bool). s || t) (is a b ha hb) (itself a b ha hb)

  pub all_joined : (links survivors : ℕ) → Pairs links (linked p) → Pairs survivors (well_both p hs) → Pairs (bit_and links survivors) (next_to p (record { hosts = hs; links = 0 }))
  all_joined links survivors it is a b ha hb =
      has_and links survivors (pair a b) ∙ ap₂ (λ (s t : Bool). s && t) (it a b ha hb) (is a b ha hb) ∙ links_left a b
