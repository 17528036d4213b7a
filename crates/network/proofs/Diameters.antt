-- The diameter is the least k at which all survivors are within k links of each other; and it is the same where the same links survive.
-- Assumes nothing.
use mathlib.Core.Path.{◌≡◌, refl, sym, ap, ap₂, ◌∙◌, fun_ext}
use mathlib.Core.Bool.{Bool, true, false, not, cond, ◌&&◌, ◌||◌}
use mathlib.Core.Logic.{⊎_elim}
use Prim.Native.Nat.{ℕ, zero, suc, ◌+◌, ◌-◌, ◌≤◌, ◌<◌, zero-le}
use native.Mathlib.Nat.{le_trans, lt_of_le_of_lt, lt_of_lt_of_le}
use native.Mathlib.Omega.{arith}
use borrow.Author.Tests.{eq-eqb, leb-true, le-leb, ltb-true, lt-ltb, not-true}
use lib.Dec.{eqb, leb, ltb}
use Rattle.lists.specs.Searches.{least, largest}
use Rattle.lists.proofs.Bools.{and_left_lem, and_right, or_true_left, or_true_right, or_cases, else_le}
use Rattle.lists.proofs.SearchLaws.{some_same, largest_le}
use Rattle.network.specs.Network.{n, m, link, has, survives, via, within, distance, farthest, diameter, Survivor}
use Rattle.network.specs.Inside.{Small, Pairs, paired, alike, well, well_both, wanted}
use Rattle.network.specs.declared.Plan.{Plan}
use Rattle.network.specs.declared.Faults.{Faults}
use Rattle.network.proofs.Distances.{within_le, distance_le, distance_within, diameter_bound}
use Rattle.network.proofs.Survivors.{distance_diameter}
use Rattle.network.proofs.PairLaws.{alike_at, at_alike}
use Rattle.network.proofs.Leasts.{least_from}
use Rattle.network.proofs.Nexts.{iff, both, within_well}

module _ (p : Plan) (small : Small p) (f : Faults) where
  survivor : (a : ℕ) → well p f.hosts a ≡ true → Survivor p f a
  unfolding well
  survivor a e = record { host = ltb-true a (n p) (and_left_lem (ltb a (n p)) _ e); well = not-true _ (and_right (ltb a (n p)) _ e) }

  well_at : (a : ℕ) → a < n p → has f.hosts a ≡ false → well p f.hosts a ≡ true
  unfolding well
  well_at a h e = both (lt-ltb a (n p) h) (ap not e)

  -- all that is wanted, and nothing else, is within k links
  all_within : (k : ℕ) → diameter p f ≤ k → k < n p → (a b : ℕ) → wanted p f.hosts a b ≡ within p f k a b
  unfolding wanted well_both within
  all_within k h l a b = iff _ _ there back
    where
      there : wanted p f.hosts a b ≡ true → within p f k a b ≡ true
      there e =
          ⊎_elim
          (λ q.
          let far = distance_diameter p f a b (survivor a (and_left_lem (well p f.hosts a) _ q)) (survivor b (and_right (well p f.hosts a) _ q)) in
          distance_within p f a b k (le_trans far h) (lt_of_le_of_lt (le_trans far h) l))
          (λ q. within_le p f b 0 k a zero-le q) (or_cases (well_both p f.hosts a b) _ e)

      back : within p f k a b ≡ true → wanted p f.hosts a b ≡ true
      back e = ⊎_elim (λ q. or_true_right (well_both p f.hosts a b) _ (eq-eqb a b q)) (λ q. or_true_left _ _ q) (within_well p small f k a b e)

  module _ (all : ℕ) (is : Pairs all (wanted p f.hosts)) where
    near_all : (k : ℕ) → k < n p → alike (paired all) (within p f k) ≡ leb (diameter p f) k
    unfolding diameter farthest wanted well_both
    near_all k l = iff _ _ there back
      where
        low : {a : ℕ} → a < n p → a < 8
        low h = lt_of_lt_of_le h small.hosts

        there : alike (paired all) (within p f k) ≡ true → leb (diameter p f) k ≡ true
        there e =
            le-leb (diameter p f) k
            (largest_le _ (n p) k (λ b hb.
            else_le (has f.hosts b) (λ eb.
            largest_le _ (n p) k (λ a ha.
            else_le (has f.hosts a) (λ ea.
            distance_le p f a b k l
            (sym (alike_at (paired all) (within p f k) e a b (low ha) (low hb)) ∙ is a b (low ha) (low hb) ∙ or_true_left _ _ (both (well_at a ha ea) (well_at b hb eb))))))))

        back : leb (diameter p f) k ≡ true → alike (paired all) (within p f k) ≡ true
        back e = at_alike (paired all) (within p f k) (λ a b ha hb. is a b ha hb ∙ all_within k (leb-true (diameter p f) k e) l a b)

    pub least_diameter : least (n p) (λ k. alike (paired all) (within p f k)) ≡ diameter p f
    least_diameter = least_from (n p) (diameter p f) _ (diameter_bound p f) near_all

-- what reach leaves over of n links
pub left_over : (p : Plan) (small : Small p) (hs ls all r : ℕ) → Pairs all (wanted p hs)
    → r + least (n p) (λ k. alike (paired all) (within p (record { hosts = hs; links = ls }) k)) ≡ n p → n p - r ≡ diameter p (record { hosts = hs; links = ls })
left_over p small hs ls all r is e = let d = least_diameter p small (record { hosts = hs; links = ls }) all is in omega (arith, d, e)

-- ---- where the same links survive

module _ (p : Plan) (hs ls ks : ℕ) (same : (i : ℕ) → i < m p → survives p (record { hosts = hs; links = ls }) i ≡ survives p (record { hosts = hs; links = ks }) i) where
  f : Faults
  f = record { hosts = hs; links = ls }

  g : Faults
  g = record { hosts = hs; links = ks }

  within_same : (k a b : ℕ) → within p f k a b ≡ within p g k a b
  unfolding within via f g
  within_same zero a b = refl
  within_same (suc k) a b =
      ap (λ (t : Bool). eqb a b || t)
      (some_same (m p) _ _ (λ i h.
      ap₂ (λ (s : Bool) (w : ℕ → Bool). s && (w (link p i).a && eqb a (link p i).b || w (link p i).b && eqb a (link p i).a)) (same i h) (fun_ext (λ c. within_same k c b))))

  pub diameter_same : diameter p (record { hosts = hs; links = ls }) ≡ diameter p (record { hosts = hs; links = ks })
  unfolding diameter farthest distance f g
  diameter_same =
      ap (λ (w : ℕ → ℕ → ℕ → Bool). largest (n p) (λ b. cond (has hs b) 0 (largest (n p) (λ a. cond (has hs a) 0 (least (n p) (λ k. w k a b))))))
      (fun_ext (λ k. fun_ext (λ a. fun_ext (λ b. within_same k a b))))
