-- The least k at which a test of pairs is all that is wanted, step by step as `reach` looks for it. Assumes nothing.
use mathlib.Core.Path.{◌≡◌, refl, sym, ap, ◌∙◌}
use mathlib.Core.Bool.{Bool, true, false, cond, ◌&&◌, ◌||◌}
use mathlib.Core.Logic.{⊎_elim}
use Prim.Native.Nat.{ℕ, zero, suc, ◌+◌, ◌-◌, ◌^◌, ◌≤◌, ◌<◌}
use native.Mathlib.Nat.{add-zero, le_refl, le_antisymm}
use native.Mathlib.Omega.{arith}
use borrow.Author.Tests.{eqb-true, leb-true, leb-false, le-leb, lt-leb}
use lib.Dec.{eqb, leb}
use Rattle.lists.specs.Searches.{least}
use Rattle.lists.proofs.Bools.{false_unless, or_cases}
use Rattle.lists.proofs.SearchLaws.{some_same, least_here, least_none}
use Rattle.network.specs.Network.{has}
use Rattle.network.specs.Inside.{pair, Pairs, paired, alike, spreads, Spreads}
use Rattle.network.proofs.PairLaws.{alike_at, at_alike, pairs_same}

least_zero : (k : ℕ) (f : ℕ → Bool) → k ≡ 0 → least k f ≡ 0
unfolding least
least_zero k f e = ap (λ (x : ℕ). least x f) e

least_now : (k : ℕ) (f : ℕ → Bool) → f 0 ≡ true → least k f ≡ 0
unfolding least
least_now zero f e = refl
least_now (suc k) f e = ap (λ (t : Bool). cond t 0 (suc (least k (λ i. f (suc i))))) e

least_later : (k : ℕ) (f : ℕ → Bool) → f 0 ≡ false → least (suc k) f ≡ suc (least k (λ i. f (suc i)))
unfolding least
least_later k f e = ap (λ (t : Bool). cond t 0 (suc (least k (λ i. f (suc i))))) e

-- where the test passes from D on, D is the least
pub least_from : (k D : ℕ) (f : ℕ → Bool) → D ≤ k → ((i : ℕ) → i < k → f i ≡ leb D i) → least k f ≡ D
least_from k D f h e = go (leb k D) refl
  where
    before : (i : ℕ) → i < k → i < D → f i ≡ false
    before i l q = e i l ∙ lt-leb D i q

    go : (t : Bool) → leb k D ≡ t → least k f ≡ D
    go true q = let l = leb-true k D q in sym (least_none k f (λ i b. before i b (omega arith))) ∙ le_antisymm l h
    go false q = let l = leb-false k D q in sym (least_here k f D l (λ i b. before i (omega arith) b) (e D l ∙ le-leb D D (le_refl D)))

module _ (joined all near k : ℕ) (t : ℕ → ℕ → ℕ → Bool) (is : Pairs near (t 0)) where
  done : ℕ → Bool
  done i = alike (paired all) (t i)

  -- all is within reach, or no links are left
  pub reached_now : (eqb near all || eqb k 0) ≡ true → k + least k (λ i. alike (paired all) (t i)) ≡ k
  unfolding done
  reached_now e =
      ap (λ (x : ℕ). k + x)
      (⊎_elim
      (λ q. least_now k done (at_alike (paired all) (t 0) (λ a b ha hb. ap (λ (x : ℕ). has x (pair a b)) (sym (eqb-true near all q)) ∙ is a b ha hb)))
      (λ q. least_zero k done (eqb-true k 0 q)) (or_cases (eqb near all) _ e))
      ∙ add-zero k

  pub not_yet : near < 2 ^ 64 → all < 2 ^ 64 → (near ≡ all → ⊥) → alike (paired all) (t 0) ≡ false
  not_yet hn ha differ =
      false_unless (alike (paired all) (t 0))
      (λ e. differ (sym (pairs_same all near ha hn (at_alike (paired all) (paired near) (λ a b la lb. alike_at (paired all) (t 0) e a b la lb ∙ sym (is a b la lb))))))

  -- one link more
  pub spread_on : (r : ℕ) → Pairs r (spreads joined (paired near)) → Spreads joined t → Pairs r (t 1)
  unfolding spreads
  spread_on r sp st a b ha hb =
      sp a b ha hb
      ∙ ap (λ (u : Bool). eqb a b || u) (some_same 8 _ _ (λ c hc. ap (λ (u : Bool). has joined (pair a c) && u) (is c b hc hb)))
      ∙ sym (st 0 a b ha hb)

  pub reached_later : (r : ℕ) → 0 < k → alike (paired all) (t 0) ≡ false → r + least (k - 1) (λ i. alike (paired all) (t (suc i))) ≡ k - 1
      → r + least k (λ i. alike (paired all) (t i)) ≡ k
  reached_later r h e q =
      let up : suc (k - 1) ≡ k = omega arith in
      let later = ap (λ (x : ℕ). least x (λ i. alike (paired all) (t i))) (sym up) ∙ least_later (k - 1) (λ i. alike (paired all) (t i)) e in
      omega (arith, later, q, up)
