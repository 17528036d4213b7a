-- What callers use of an accepted plan: its survivors are within d links of each other, the step that a walk along the links takes, and how
-- large its numbers are. And refusal 3: given exactly where some fault set parts the survivors. Assumes nothing.
use mathlib.Core.Path.{◌≡◌, refl, sym, subst}
use mathlib.Core.Bool.{Bool, true, false, cond}
use mathlib.Core.Logic.{◌⊎◌, inl, inr, ⊎_elim}
use Prim.Native.Nat.{ℕ, suc, ◌≤◌, ◌<◌, ◌^◌}
use native.Mathlib.Nat.{le_refl, le_trans, lt_of_le_of_lt}
use borrow.Author.Tests.{le-leb, eqb-true}
use lib.Dec.{eqb}
use Rattle.lists.proofs.Bools.{and_left_lem, and_right, or_cases}
use Rattle.lists.proofs.SearchLaws.{some_at, le_largest}
use Rattle.network.specs.Network.{n, m, link, has, survives, via, within, distance, farthest, diameter, worst_links, worst, plan_refusal, FaultSet, Survivor}
use Rattle.network.specs.Inside.{at_links, at_hosts}
use Rattle.network.specs.declared.Plan.{Plan}
use Rattle.network.specs.declared.Faults.{Faults}
use Rattle.network.proofs.Distances.{at_survivor, distance_within}
use Rattle.network.proofs.Answers.{fine}

-- ---- any two survivors are within d links

-- a number that counts where a test has its value is at most what the choice takes
pub then_most : {t : Bool} (x : ℕ) → t ≡ true → x ≤ cond t x 0
then_most x e = subst (λ (t : Bool). x ≤ cond t x 0) (sym e) (le_refl x)

else_most : {t : Bool} (x : ℕ) → t ≡ false → x ≤ cond t 0 x
else_most x e = subst (λ (t : Bool). x ≤ cond t 0 x) (sym e) (le_refl x)

pub distance_diameter : (p : Plan) (f : Faults) (a b : ℕ) → Survivor p f a → Survivor p f b → distance p f a b ≤ diameter p f
unfolding farthest diameter
distance_diameter p f a b sa sb =
    le_trans (else_most (distance p f a b) sa.well)
    (le_trans (le_largest (λ x. cond (has f.hosts x) 0 (distance p f x b)) (n p) a sa.host)
    (le_trans (else_most (farthest p f b) sb.well)
    (le_largest (at_survivor p f) (n p) b sb.host)))

module _ (p : Plan) (f : Faults) (set : FaultSet p f) (a b : ℕ) (sa : Survivor p f a) (sb : Survivor p f b) where
  pub distance_worst : distance p f a b ≤ worst p
  unfolding worst_links worst
  distance_worst =
      le_trans (distance_diameter p f a b sa sb)
      (le_trans (then_most (diameter p f) (le-leb _ _ set.few_links))
      (le_trans (le_largest (at_links p f.hosts) (2 ^ m p) f.links set.links)
      (le_trans (then_most (worst_links p f.hosts) (le-leb _ _ set.few_hosts))
      (le_largest (at_hosts p) (2 ^ n p) f.hosts set.hosts))))

  pub reached : plan_refusal p ≡ 0 → within p f (worst p) a b ≡ true
  reached e = distance_within p f a b (worst p) distance_worst (lt_of_le_of_lt distance_worst (fine p e).near)

-- ---- the step that a diffusion induction walks along

-- a surviving link from a to a host that is within k links of b
pub record Next (p : Plan) (f : Faults) (k a b : ℕ) : Type 0 where
  pub over : ℕ
  pub link_there : over < m p
  pub link_survives : survives p f over ≡ true
  pub other : ℕ
  pub joined : ((a ≡ (link p over).a) × (other ≡ (link p over).b)) ⊎ ((a ≡ (link p over).b) × (other ≡ (link p over).a))
  pub nearer : within p f k other b ≡ true

-- within k + 1 links of b is b itself, or one link from within k
pub next : (p : Plan) (f : Faults) (k a b : ℕ) → within p f (suc k) a b ≡ true → (a ≡ b) ⊎ Next p f k a b
unfolding within via
next p f k a b e =
    ⊎_elim (λ q. inl (eqb-true a b q)) (λ q. inr (at (some_at (via p f near a) (m p) q))) (or_cases (eqb a b) _ e)
  where
    near : ℕ → Bool
    near c = within p f k c b

    at : (i : ℕ) × (i < m p) × (via p f near a i ≡ true) → Next p f k a b
    at (i, h, v) =
        let on = and_left_lem (survives p f i) _ v in
        ⊎_elim
        (λ q. record { over = i; link_there = h; link_survives = on; other = (link p i).a; joined = inr (eqb-true _ _ (and_right (near (link p i).a) _ q), refl); nearer = and_left_lem (near (link p i).a) _ q })
        (λ q. record { over = i; link_there = h; link_survives = on; other = (link p i).b; joined = inl (eqb-true _ _ (and_right (near (link p i).b) _ q), refl); nearer = and_left_lem (near (link p i).b) _ q })
        (or_cases _ _ (and_right (survives p f i) _ v))
