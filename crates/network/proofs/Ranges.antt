-- What the tests of a plan say of its numbers and links, and how large Δ and W can be. Assumes nothing.
use mathlib.Core.Path.{◌≡◌, refl, sym, ◌∙◌}
use mathlib.Core.Bool.{Bool, true, false, cond, true≢false}
use Prim.Native.Nat.{ℕ, ◌+◌, ◌*◌, ◌≤◌, ◌<◌}
use native.Mathlib.Omega.{arith}
use native.Mathlib.Nat.{mul-le-mul, le_antisymm}
use lib.Dec.{eqb, ltb}
use borrow.Author.Tests.{leb-true, leb-false, ltb-true, ltb-false, eqb-true, eq-eqb}
use Rattle.lists.proofs.TestLaws.{all_each, each_all, none_each}
use Rattle.lists.proofs.Bools.{and_left_lem, and_right}
use Rattle.lists.proofs.SearchLaws.{some_false}
use Rattle.network.specs.Network.{n, m, π, L, δ, ε, link, in_range, same, bad_link, bad_links, bound, window}
use Rattle.network.specs.Inside.{Small, is_pair}
use Rattle.network.specs.declared.Plan.{Plan}

pub record Ranges (p : Plan) : Type 0 where
  pub hosts_low : 2 ≤ n p
  pub hosts_high : n p ≤ 8
  pub links_low : 1 ≤ m p
  pub links_high : m p ≤ 12
  pub faulty_hosts : π p + 2 ≤ n p
  pub faulty_links : L p ≤ 12
  pub delay_low : 1 ≤ δ p
  pub delay_high : δ p ≤ 64
  pub skew_low : 1 ≤ ε p
  pub skew_high : ε p ≤ 64

pub ranges : (p : Plan) → in_range p ≡ true → Ranges p
unfolding in_range
ranges p e =
    let t = all_each _ e in
    record {
      hosts_low = leb-true _ _ t.0;
      hosts_high = leb-true _ _ t.1.0;
      links_low = leb-true _ _ t.1.1.0;
      links_high = leb-true _ _ t.1.1.1.0;
      faulty_hosts = leb-true _ _ t.1.1.1.1.0;
      faulty_links = leb-true _ _ t.1.1.1.1.1.0;
      delay_low = leb-true _ _ t.1.1.1.1.1.1.0;
      delay_high = leb-true _ _ t.1.1.1.1.1.1.1.0;
      skew_low = leb-true _ _ t.1.1.1.1.1.1.1.1.0;
      skew_high = leb-true _ _ t.1.1.1.1.1.1.1.1.1.0;
    }

-- a link of a plan that is clear of 2
pub record Ends (p : Plan) (i : ℕ) : Type 0 where
  pub a_host : (link p i).a < n p
  pub b_host : (link p i).b < n p
  pub a_below_b : (link p i).a < (link p i).b

pub ends : (p : Plan) → bad_links p ≡ false → (i : ℕ) → i < m p → Ends p i
unfolding bad_links bad_link
ends p e i h =
    let t = none_each _ (some_false (bad_link p) (m p) e i h) in
    record { a_host = leb-false _ _ t.0; b_host = leb-false _ _ t.1.0; a_below_b = leb-false _ _ t.1.1.0 }

-- links that are one pair are one link
once : (p : Plan) → bad_links p ≡ false → (i j : ℕ) → i < m p → j < m p → is_pair p (link p i).a (link p i).b j ≡ true → i ≡ j
unfolding bad_links bad_link same is_pair
once p e i j h l q = go (ltb i j) refl (ltb j i) refl
  where
    a_same : (link p i).a ≡ (link p j).a
    a_same = eqb-true _ _ (and_left_lem (eqb (link p i).a (link p j).a) _ q)

    b_same : (link p i).b ≡ (link p j).b
    b_same = eqb-true _ _ (and_right (eqb (link p i).a (link p j).a) _ q)

    no : (k : ℕ) → k < m p → (o : ℕ) → o < k → (link p k).a ≡ (link p o).a → (link p k).b ≡ (link p o).b → ⊥
    no k hk o lt ea eb =
        let t = none_each _ (some_false (bad_link p) (m p) e k hk) in
        true≢false (sym (each_all _ (eq-eqb _ _ ea, (eq-eqb _ _ eb, tt))) ∙ some_false (same p k) k t.1.1.1.0 o lt)

    go : (t : Bool) → ltb i j ≡ t → (u : Bool) → ltb j i ≡ u → i ≡ j
    go true x u y = absurd (no j l i (ltb-true i j x) (sym a_same) (sym b_same))
    go false x true y = absurd (no i h j (ltb-true j i y) a_same b_same)
    go false x false y = le_antisymm (ltb-false j i y) (ltb-false i j x)

pub small : (p : Plan) → in_range p ≡ true → bad_links p ≡ false → Small p
small p r e =
    let s = ranges p r in
    record {
      some_hosts = omega arith;
      hosts = s.hosts_high;
      links = s.links_high;
      ends = λ i h. let k = ends p e i h in (k.a_below_b, k.b_host);
      once = once p e;
    }

-- ---- Δ and W grow with the numbers they are made of: here A bounds π, B bounds d, C bounds δ and E bounds ε

pub skews_most : (p : Plan) (E : ℕ) → ε p ≤ E → (rules : ℕ) → cond (eqb rules 1) 1 8 * ε p ≤ 8 * E
skews_most p E h rules = go (eqb rules 1)
  where
    go : (t : Bool) → cond t 1 8 * ε p ≤ 8 * E
    go true = omega arith
    go false = omega arith

module _ (p : Plan) (d A B C E : ℕ) (few : π p ≤ A) (far : d ≤ B) (late : δ p ≤ C) (apart : ε p ≤ E) where
  pub cost_most : (rules : ℕ) → π p * cond (eqb rules 1) (δ p) (δ p + ε p) ≤ A * (C + E)
  cost_most rules = mul-le-mul few (go (eqb rules 1))
    where
      go : (t : Bool) → cond t (δ p) (δ p + ε p) ≤ C + E
      go true = omega arith
      go false = omega arith

  pub far_most : d * δ p ≤ B * C
  far_most = mul-le-mul far late

  pub bound_most : (rules : ℕ) → bound rules p d ≤ A * (C + E) + B * C + E
  unfolding bound
  bound_most rules = omega (arith, cost_most rules, far_most)

  pub first_bound_most : bound 1 p d ≤ A * C + B * C + E
  unfolding bound
  first_bound_most = let few-late : π p * δ p ≤ A * C = mul-le-mul few late in omega (arith, far_most)

  pub window_most : (rules : ℕ) → window rules p d ≤ A * (C + E) + B * C + E + 8 * E
  unfolding window
  window_most rules = omega (arith, bound_most rules, skews_most p E apart rules)

  pub first_window_most : window 1 p d ≤ A * C + B * C + E + E
  unfolding window
  first_window_most = omega (arith, first_bound_most)
