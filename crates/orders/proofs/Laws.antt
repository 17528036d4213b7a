-- An order is its kind, its image and its share: so sameness is equality, and its bytes say which order it is. Assumes nothing.
use mathlib.Core.Path.{◌≡◌, refl, sym, ap, subst}
use mathlib.Core.Bool.{Bool, true, false, not, cond, ◌&&◌, ◌||◌}
use mathlib.Core.List.{[], ◌++◌}
use Prim.Native.Nat.{ℕ, ◌≤◌}
use native.Mathlib.Omega.{arith}
use borrow.Author.Tests.{eqb-true, eqb-false, eq-eqb, leb-true, not-false}
use lib.Dec.{eqb, leb}
use lib.ListN.{length}
use Rattle.lists.specs.Bytes.{be}
use Rattle.lists.proofs.Bools.{and_left_lem, and_right, or_left_lem, or_right}
use Rattle.orders.specs.Orders.{kind_of, image_of, share_of, is_kind, is_share, share_fits, same_order, order_of, order_bytes, size_of, wrong_size, wrong_value}
use Rattle.orders.specs.declared.Order.{Order}
use Rattle.orders.specs.declared.Order.TheVariants.{Publish, Halt, Resume, Withdraw}

-- ---- sameness

-- the order of its kind and image, and of its share where it is a publish
pub from_parts : (s : ℕ) (o : Order) → (eqb (kind_of o) 1 ≡ true → s ≡ share_of o) → order_of (kind_of o) (image_of o) s ≡ o
from_parts s (Publish image share) e = ap (Publish image) (e refl)
from_parts s (Halt image) e = refl
from_parts s (Resume image) e = refl
from_parts s (Withdraw image) e = refl

pub same_equal : (o p : Order) → same_order o p ≡ true → o ≡ p
same_equal o p e =
    let k : Bool = eqb (kind_of o) (kind_of p) in
    let i : Bool = eqb (image_of o) (image_of p) in
    let s : Bool = eqb (share_of o) (share_of p) in
    let ki : (k && i) ≡ true = and_left_lem (k && i) s e in
    let kinds : kind_of o ≡ kind_of p = eqb-true _ _ (and_left_lem k i ki) in
    let images : image_of o ≡ image_of p = eqb-true _ _ (and_right k i ki) in
    let shares : share_of o ≡ share_of p = eqb-true _ _ (and_right (k && i) s e) in
    cc (from_parts (share_of o) o (λ _. refl), from_parts (share_of p) p (λ _. refl))

pub equal_same : (o p : Order) → o ≡ p → same_order o p ≡ true
equal_same o p e = simp (eq-eqb _ _ (ap kind_of e), eq-eqb _ _ (ap image_of e), eq-eqb _ _ (ap share_of e))

-- ---- bytes

pub size_bytes : (o : Order) → length (order_bytes o) ≡ size_of (kind_of o)
unfolding order_bytes be
size_bytes (Publish image share) = refl
size_bytes (Halt image) = refl
size_bytes (Resume image) = refl
size_bytes (Withdraw image) = refl

pub kind_is : (o : Order) → is_kind (kind_of o) ≡ true
kind_is (Publish image share) = refl
kind_is (Halt image) = refl
kind_is (Resume image) = refl
kind_is (Withdraw image) = refl

-- nothing is wrong with an order's own value, whatever stands for the share where it is no publish
pub right_value : (s : ℕ) (o : Order) → (eqb (kind_of o) 1 ≡ true → s ≡ share_of o) → share_fits o ≡ true → wrong_value (kind_of o) s ≡ false
right_value s (Publish image share) e f = rw (e refl, f)
right_value s (Halt image) e f = refl
right_value s (Resume image) e f = refl
right_value s (Withdraw image) e f = refl

-- ---- bytes in which nothing is wrong are those of an order

module _ (kind : ℕ) (k : is_kind kind ≡ true) where
  -- what holds of the four kinds
  pub by_kind : (P : ℕ → Type 0) → P 1 → P 2 → P 3 → P 4 → P kind
  by_kind P p1 p2 p3 p4 =
      let low : 1 ≤ kind = leb-true 1 kind (and_left_lem (leb 1 kind) (leb kind 4) k) in
      let high : kind ≤ 4 = leb-true kind 4 (and_right (leb 1 kind) (leb kind 4) k) in
      go (eqb kind 1) (eqb kind 2) (eqb kind 3) refl refl refl low high
    where
      go : (a b c : Bool) → eqb kind 1 ≡ a → eqb kind 2 ≡ b → eqb kind 3 ≡ c → 1 ≤ kind → kind ≤ 4 → P kind
      go true b c x y z low high = subst P (sym (eqb-true kind 1 x)) p1
      go false true c x y z low high = subst P (sym (eqb-true kind 2 y)) p2
      go false false true x y z low high = subst P (sym (eqb-true kind 3 z)) p3
      go false false false x y z low high =
          let n1 : kind ≡ 1 → ⊥ = eqb-false kind 1 x in
          let n2 : kind ≡ 2 → ⊥ = eqb-false kind 2 y in
          let n3 : kind ≡ 3 → ⊥ = eqb-false kind 3 z in
          let e : 4 ≡ kind = omega arith in
          subst P e p4

  pub of_bytes : (image share : ℕ) → order_bytes (order_of kind image share) ≡ be 1 kind ++ (be 4 image ++ cond (eqb kind 1) (be 1 share) [])
  unfolding order_bytes
  of_bytes image share = by_kind (λ n. order_bytes (order_of n image share) ≡ be 1 n ++ (be 4 image ++ cond (eqb n 1) (be 1 share) [])) refl refl refl refl

  pub of_fits : (image share : ℕ) → wrong_value kind share ≡ false → share_fits (order_of kind image share) ≡ true
  of_fits image share =
      by_kind (λ n. wrong_value n share ≡ false → share_fits (order_of n image share) ≡ true) (λ e. not-false (is_share share) e) (λ e. refl) (λ e. refl) (λ e. refl)

  pub of_size : (bytes : ℕ) → wrong_size kind bytes ≡ false → bytes ≡ size_of kind
  of_size bytes e =
      let rest : (is_kind kind && not (eqb bytes (size_of kind))) ≡ false = or_right (not (eqb bytes 5 || eqb bytes 6)) _ e in
      eqb-true bytes (size_of kind) (not-false (eqb bytes (size_of kind)) (rw k at rest))

-- where no value is wrong the kind is one
pub right_kind : (kind share : ℕ) → wrong_value kind share ≡ false → is_kind kind ≡ true
right_kind kind share e = not-false (is_kind kind) (or_left_lem (not (is_kind kind)) (eqb kind 1 && not (is_share share)) e)

-- nor with its own size
pub right_size : (o : Order) → wrong_size (kind_of o) (length (order_bytes o)) ≡ false
right_size o = rw (size_bytes o) (by_kind (kind_of o) (kind_is o) (λ k. wrong_size k (size_of k) ≡ false) refl refl refl refl)
