-- Laws of `within`, `distance`, `farthest`, `diameter` and the largest of these. Assumes nothing.
use mathlib.Core.Path.{◌≡◌, sym, ap, ◌∙◌}
use mathlib.Core.Bool.{Bool, true, false, cond, ◌&&◌, ◌||◌, true≢false}
use mathlib.Core.Logic.{⊎_elim}
use Prim.Native.Nat.{ℕ, zero, suc, ◌≤◌, ◌<◌, ◌^◌}
use native.Mathlib.Nat.{le_of_suc-le-suc}
use native.Mathlib.Decide.{le_ind}
use lib.Dec.{eqb, leb}
use lib.Count.{ones}
use Rattle.lists.proofs.Bools.{false_unless, and_left_lem, and_right, or_true_left, or_true_right, or_cases, then_le, else_le}
use Rattle.lists.proofs.SearchLaws.{some_at, some_true, least_bound, least_le, least_hits, le_least, largest_le}
use Rattle.network.specs.Network.{n, m, π, L, link, has, survives, via, within, distance, farthest, diameter, worst_links}
use Rattle.network.specs.Inside.{at_links, at_hosts}
use Rattle.network.specs.declared.Plan.{Plan}
use Rattle.network.specs.declared.Faults.{Faults}

module _ (p : Plan) (f : Faults) where
  -- where h holds of the ends that g holds of, a link that joins a to a host of g joins it to one of h
  pub via_more : (g h : ℕ → Bool) (a i : ℕ) → (g (link p i).a ≡ true → h (link p i).a ≡ true) → (g (link p i).b ≡ true → h (link p i).b ≡ true)
      → via p f g a i ≡ true → via p f h a i ≡ true
  unfolding via
  via_more g h a i at_a at_b e =
      go (survives p f i) (g (link p i).a) (h (link p i).a) at_a (g (link p i).b) (h (link p i).b) at_b e
    where
      one : (u u' x : Bool) → (u ≡ true → u' ≡ true) → (u && x) ≡ true → (u' && x) ≡ true
      one u u' x up e = ap (λ (t : Bool). t && x) (up (and_left_lem u x e)) ∙ and_right u x e

      go : (t u u' : Bool) → (u ≡ true → u' ≡ true) → (v v' : Bool) → (v ≡ true → v' ≡ true)
          → (t && (u && eqb a (link p i).b || v && eqb a (link p i).a)) ≡ true → (t && (u' && eqb a (link p i).b || v' && eqb a (link p i).a)) ≡ true
      go false u u' up v v' vp e = e
      go true u u' up v v' vp e =
          ⊎_elim (λ q. or_true_left _ _ (one u u' (eqb a (link p i).b) up q)) (λ q. or_true_right (u' && eqb a (link p i).b) _ (one v v' (eqb a (link p i).a) vp q))
          (or_cases (u && eqb a (link p i).b) (v && eqb a (link p i).a) e)

  pub within_more : (b k a : ℕ) → within p f k a b ≡ true → within p f (suc k) a b ≡ true
  unfolding within
  within_more b zero a e = or_true_left (eqb a b) _ e
  within_more b (suc k) a e =
      ⊎_elim (λ q. or_true_left (eqb a b) _ q)
      (λ q.
      let s = some_at (via p f (λ c. within p f k c b) a) (m p) q in
      or_true_right (eqb a b) _
      (some_true (via p f (λ c. within p f (suc k) c b) a) (m p) s.0 s.1
      (via_more (λ c. within p f k c b) (λ c. within p f (suc k) c b) a s.0 (within_more b k _) (within_more b k _) s.2)))
      (or_cases (eqb a b) _ e)

  pub within_le : (b k j a : ℕ) → k ≤ j → within p f k a b ≡ true → within p f j a b ≡ true
  within_le b k j a h e = le_ind (λ (n : ℕ). within p f n a b ≡ true) e (λ n l q. within_more b n a q) j h

  -- ---- distance

  pub distance_bound : (a b : ℕ) → distance p f a b ≤ n p
  unfolding distance
  distance_bound a b = least_bound (n p) (λ k. within p f k a b)

  -- a distance below n is a number of links that is enough
  pub distance_within : (a b k : ℕ) → distance p f a b ≤ k → distance p f a b < n p → within p f k a b ≡ true
  unfolding distance
  distance_within a b k h l = within_le b (distance p f a b) k a h (least_hits (n p) (λ j. within p f j a b) l)

  pub distance_le : (a b k : ℕ) → k < n p → within p f k a b ≡ true → distance p f a b ≤ k
  unfolding distance
  distance_le a b k h e = least_le (n p) (λ j. within p f j a b) k h e

  pub distance_more : (a b k : ℕ) → k < n p → within p f k a b ≡ false → k < distance p f a b
  unfolding distance
  distance_more a b k h e =
      le_least (n p) (λ j. within p f j a b) (suc k) h
      (λ j l. false_unless (within p f j a b) (λ q. true≢false (sym (within_le b j k a (le_of_suc-le-suc l) q) ∙ e)))

  -- ---- farthest

  pub farthest_bound : (b : ℕ) → farthest p f b ≤ n p
  unfolding farthest
  farthest_bound b = largest_le _ (n p) (n p) (λ a h. else_le (has f.hosts a) (λ e. distance_bound a b))

  -- what the search for the diameter looks at
  abbrev pub at_survivor : ℕ → ℕ
  at_survivor b = cond (has f.hosts b) 0 (farthest p f b)

  pub diameter_bound : diameter p f ≤ n p
  unfolding diameter
  diameter_bound = largest_le _ (n p) (n p) (λ b h. else_le (has f.hosts b) (λ e. farthest_bound b))

-- ---- over the fault sets

module _ (p : Plan) where
  pub at_links_bound : (hs ls : ℕ) → at_links p hs ls ≤ n p
  at_links_bound hs ls = then_le (leb (ones ls) (L p)) (λ e. diameter_bound p (record { hosts = hs; links = ls }))

  pub worst_links_bound : (hs : ℕ) → worst_links p hs ≤ n p
  unfolding worst_links
  worst_links_bound hs = largest_le (at_links p hs) (2 ^ m p) (n p) (λ ls h. at_links_bound hs ls)

  pub at_hosts_bound : (hs : ℕ) → at_hosts p hs ≤ n p
  at_hosts_bound hs = then_le (leb (ones hs) (π p)) (λ e. worst_links_bound hs)
