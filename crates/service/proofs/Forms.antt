-- Numbers that are an order's, and what the order of any three numbers tells of them. Assumes nothing.
use mathlib.Core.Path.{◌≡◌, refl, sym, ap₂, ◌∙◌}
use mathlib.Core.Bool.{Bool, true, false, cond, ◌&&◌, true≢false}
use Prim.Native.Nat.{ℕ, ◌+◌, ◌*◌, ◌≤◌, ◌<◌}
use native.Mathlib.Omega.{arith}
use borrow.Author.Tests.{leb-true, le-leb, eqb-true, eq-eqb, ne_eqb}
use lib.Dec.{leb, eqb}
use Rattle.lists.proofs.Bools.{false_unless, and_left_lem, and_right}
use Rattle.orders.specs.declared.Order.TheVariants.{Publish}
use Rattle.orders.specs.Orders.{is_kind, is_share, share_fits, order_of}
use Rattle.service.specs.Memory.{formed, zeros, order_from}
use Rattle.service.specs.Bits.{by_form}

pub share_byte : (kind share : ℕ) → formed kind share ≡ true → share < 256
share_byte kind share f =
    by_form kind share f (λ k s. s < 256) (λ s e. let h : s ≤ 100 = leb-true _ _ (and_right (leb 1 s) (leb s 100) e) in omega arith) (omega arith) (omega arith) (omega arith)

module _ (kind image share : ℕ) where
  -- its share is in range just where they are an order's
  pub from_fits : share_fits (order_from kind image share) ≡ formed kind share
  from_fits = go (formed kind share) refl
    where
      none : (z : Bool) → share_fits (Publish 0 (cond z 0 255)) ≡ false
      none true = refl
      none false = refl

      go : (b : Bool) → formed kind share ≡ b → share_fits (cond b (order_of kind image share) (Publish 0 (cond (zeros kind image share) 0 255))) ≡ b
      go true f = by_form kind share f (λ k s. share_fits (order_of k image s) ≡ true) (λ s e. e) refl refl refl
      go false f = none (zeros kind image share)

-- ---- the two as one number: 2, 3 or 4 of an order that is no publish

module _ (kind share : ℕ) where
  abbrev alone : Bool
  alone = leb 2 (kind + 256 * share) && leb (kind + 256 * share) 4

  pub others : alone ≡ true → true ≡ formed kind share
  others e =
      let low : 2 ≤ kind + 256 * share = leb-true _ _ (and_left_lem (leb 2 (kind + 256 * share)) (leb (kind + 256 * share) 4) e) in
      let high : kind + 256 * share ≤ 4 = leb-true _ _ (and_right (leb 2 (kind + 256 * share)) (leb (kind + 256 * share) 4) e) in
      let none : share ≡ 0 = omega arith in
      rw (ne_eqb kind 1 (λ x. omega arith), le-leb 1 kind (omega arith), le-leb kind 4 (omega arith), eq-eqb share 0 none) refl

  pub publishes : alone ≡ false → (eqb kind 1 && is_share share) ≡ formed kind share
  publishes not-alone = go (eqb kind 1) refl
    where
      go : (t : Bool) → eqb kind 1 ≡ t → (t && is_share share) ≡ cond t (is_share share) (is_kind kind && eqb share 0)
      go true e = refl
      go false e =
          sym (false_unless (is_kind kind && eqb share 0) (λ q.
          let k = and_left_lem (is_kind kind) (eqb share 0) q in
          let low : 1 ≤ kind = leb-true _ _ (and_left_lem (leb 1 kind) (leb kind 4) k) in
          let high : kind ≤ 4 = leb-true _ _ (and_right (leb 1 kind) (leb kind 4) k) in
          let none : share ≡ 0 = eqb-true _ _ (and_right (is_kind kind) (eqb share 0) q) in
          let other : kind ≡ 1 → ⊥ = λ x. true≢false (sym (eq-eqb kind 1 x) ∙ e) in
          true≢false (sym (ap₂ ◌&&◌ (le-leb 2 (kind + 256 * share) (omega (arith, other))) (le-leb (kind + 256 * share) 4 (omega arith))) ∙ not-alone)))
