-- Two hosts that any number of links joins are within n - 1 links of each other: each step of the reach adds a host or is the last that
-- adds any. Assumes nothing.
use mathlib.Core.Path.{◌≡◌, refl, sym, subst}
use mathlib.Core.Bool.{Bool, true, false, not, ◌||◌, true≢false, false≢true}
use mathlib.Core.Logic.{◌⊎◌, inl, inr, ⊎_elim}
use Prim.Native.Nat.{ℕ, zero, suc, ◌+◌, ◌-◌, ◌<◌}
use native.Mathlib.Nat.{le_refl, le_trans, le-suc, lt_of_le_of_lt, add-suc, add-zero}
use native.Mathlib.Omega.{arith}
use borrow.Author.Tests.{eq-eqb}
use lib.Dec.{eqb}
use Rattle.lists.specs.Searches.{each, count}
use Rattle.lists.proofs.Bools.{or_true_left, or_true_right, or_cases}
use Rattle.lists.proofs.SearchLaws.{some_at, some_true, each_true, each_false}
use Rattle.lists.proofs.CountLaws.{count_le, count_more, count_pos}
use Rattle.network.specs.Network.{n, m, link, bad_links, via, within}
use Rattle.network.specs.declared.Plan.{Plan}
use Rattle.network.specs.declared.Faults.{Faults}
use Rattle.network.proofs.Ranges.{ends}
use Rattle.network.proofs.Distances.{via_more, within_more, within_le}

implied : (s t : Bool) → (not s || t) ≡ true → s ≡ true → t ≡ true
implied true t e q = e
implied false t e q = absurd (false≢true q)

broken : (s t : Bool) → (not s || t) ≡ false → (s ≡ true) × (t ≡ false)
broken true t e = (refl, e)
broken false t e = absurd (true≢false e)

module _ (p : Plan) (f : Faults) (b : ℕ) (proper : bad_links p ≡ false) (hb : b < n p) where
  near : ℕ → ℕ → Bool
  near k a = within p f k a b

  Still : ℕ → Type 0
  Still k = (a : ℕ) → a < n p → near (suc k) a ≡ true → near k a ≡ true

  still_more : (k : ℕ) → Still k → Still (suc k)
  unfolding Still near within
  still_more k s a h e =
      ⊎_elim (λ q. or_true_left (eqb a b) _ q)
      (λ q.
      let w = some_at (via p f (near (suc k)) a) (m p) q in
      let e2 = ends p proper w.0 w.1 in
      or_true_right (eqb a b) _
      (some_true (via p f (near k) a) (m p) w.0 w.1
      (via_more p f (near (suc k)) (near k) a w.0 (s (link p w.0).a e2.a_host) (s (link p w.0).b e2.b_host) w.2)))
      (or_cases (eqb a b) _ e)

  still_all : (j : ℕ) → Still j → (d : ℕ) → Still (j + d)
  still_all j s zero = subst Still (sym (add-zero j)) s
  still_all j s (suc d) = subst Still (sym (add-suc j d)) (still_more (j + d) (still_all j s d))

  still_back : (j : ℕ) → Still j → (d a : ℕ) → a < n p → near (j + d) a ≡ true → near j a ≡ true
  unfolding Still
  still_back j s zero a h e = subst (λ (k : ℕ). near k a ≡ true) (add-zero j) e
  still_back j s (suc d) a h e =
      still_back j s d a h (still_all j s d a h (subst (λ (k : ℕ). near k a ≡ true) (add-suc j d) e))

  -- after k steps the reach stood still, or it has more than k hosts
  grow : (k : ℕ) → ((j : ℕ) × (j < k) × Still j) ⊎ (k < count (n p) (near k))
  unfolding Still near within
  grow zero = inr (count_pos (n p) b (near zero) hb (eq-eqb b b refl))
  grow (suc k) = ⊎_elim (λ s. inl (s.0, le_trans s.1 (le-suc k), s.2)) (λ l. go (each (n p) (λ a. not (near (suc k) a) || near k a)) refl l) (grow k)
    where
      go : (t : Bool) → each (n p) (λ a. not (near (suc k) a) || near k a) ≡ t → k < count (n p) (near k) → ((j : ℕ) × (j < suc k) × Still j) ⊎ (suc k < count (n p) (near (suc k)))
      go true e l =
          inl (k, le_refl (suc k), λ a h q. implied (near (suc k) a) (near k a) (each_true (λ x. not (near (suc k) x) || near k x) (n p) e a h) q)
      go false e l =
          let w = each_false (λ a. not (near (suc k) a) || near k a) (n p) e in
          let new = broken (near (suc k) w.0) (near k w.0) w.2 in
          inr (lt_of_le_of_lt l (count_more (near k) (near (suc k)) (λ i. within_more p f b k i) (n p) w.0 w.1 new.1 new.0))

  stops : (j : ℕ) × (j < n p) × Still j
  stops = ⊎_elim (λ s. s) (λ l. absurd (no l)) (grow (n p))
    where
      no : n p < count (n p) (near (n p)) → ⊥
      no l = let h = count_le (n p) (near (n p)) in omega arith

  pub within_hosts : (k a : ℕ) → a < n p → within p f k a b ≡ true → within p f (n p - 1) a b ≡ true
  unfolding near
  within_hosts k a h e =
      let s = stops in
      let far : near (s.0 + k) a ≡ true = within_le p f b k (s.0 + k) a (omega arith) e in
      within_le p f b s.0 (n p - 1) a (omega (arith, s.1)) (still_back s.0 s.2 k a h far)
