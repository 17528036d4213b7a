-- A place of a history as one number: its bytes in their order in memory, and the stamp over them; 0 just where the place is unused. Assumes nothing.
use mathlib.Core.Path.{◌≡◌, refl, sym, ap, subst, ◌∙◌}
use mathlib.Core.Bool.{Bool, true, false, cond, ◌&&◌, and-false, and_assoc, true≢false}
use Prim.Native.Nat.{ℕ, ◌+◌, ◌*◌, ◌≤◌}
use native.Mathlib.Omega.{arith}
use borrow.Author.Tests.{leb-true, eqb-true, ne_eqb}
use lib.Dec.{leb, eqb}
use lib.Bits.{bit_or}
use Rattle.lists.proofs.Bools.{and_left_lem, and_right}
use Rattle.lists.proofs.Zeros.{both_zero, sum_zero, or_zero}
use Rattle.orders.specs.declared.Order.TheVariants.{Publish}
use Rattle.orders.specs.Orders.{is_kind, is_share, same_order, order_of}
use Rattle.orders.proofs.Laws.{by_kind}
use Rattle.host.specs.State.{is_no_held}
use Rattle.service.specs.declared.HeldMemory.{HeldMemory}
use Rattle.service.specs.Memory.{formed, zeros, order_from, held_from}

-- all but the stamp
abbrev pub word : HeldMemory → ℕ
word e = e.image + 4_294_967_296 * e.source + 1_099_511_627_776 * e.kind + 281_474_976_710_656 * e.share

abbrev pub memory_bits : HeldMemory → ℕ
memory_bits e = bit_or e.stamp.0 (word e)

-- ---- the order of three numbers is the blank one just where they are zeros

-- a kind and a share that are some order's: a publish with its share, or one of the others
pub by_form : (kind share : ℕ) → formed kind share ≡ true → (P : ℕ → ℕ → Type 0) → ((s : ℕ) → is_share s ≡ true → P 1 s) → P 2 0 → P 3 0 → P 4 0 → P kind share
by_form kind share f P p1 p2 p3 p4 = go (eqb kind 1) refl f
  where
    go : (b : Bool) → eqb kind 1 ≡ b → cond b (is_share share) (is_kind kind && eqb share 0) ≡ true → P kind share
    go true x e = subst (λ (k : ℕ). P k share) (sym (eqb-true kind 1 x)) (p1 share e)
    go false x e =
        let none : share ≡ 0 = eqb-true share 0 (and_right (is_kind kind) (eqb share 0) e) in
        subst (λ (s : ℕ). P kind s) (sym none)
        (by_kind kind (and_left_lem (is_kind kind) (eqb share 0) e) (λ k. eqb k 1 ≡ false → P k 0) (λ y. absurd (true≢false y)) (λ _. p2) (λ _. p3) (λ _. p4) x)

module _ (kind image share : ℕ) where
  pub from_blank : same_order (order_from kind image share) (Publish 0 0) ≡ zeros kind image share
  from_blank = go (formed kind share) refl
    where
      published : (s : ℕ) → is_share s ≡ true → (eqb image 0 && eqb s 0) ≡ false
      published s e =
          let low : 1 ≤ s = leb-true _ _ (and_left_lem (leb 1 s) (leb s 100) e) in
          rw (ne_eqb s 0 (λ q. omega arith)) (and-false (eqb image 0))

      none : (z : Bool) → same_order (Publish 0 (cond z 0 255)) (Publish 0 0) ≡ z
      none true = refl
      none false = refl

      go : (b : Bool) → formed kind share ≡ b → same_order (cond b (order_of kind image share) (Publish 0 (cond (zeros kind image share) 0 255))) (Publish 0 0) ≡ zeros kind image share
      go true f = by_form kind share f (λ k s. same_order (order_of k image s) (Publish 0 0) ≡ zeros k image s) published refl refl refl
      go false f = none (zeros kind image share)

-- ---- the memory's own law of them

word_zero : (e : HeldMemory) → eqb (word e) 0 ≡ (eqb e.source 0 && zeros e.kind e.image e.share)
word_zero e =
    both_zero (word e) e.source (e.kind + e.image + e.share) (λ q. (omega arith, omega arith)) (λ x y. omega arith)
    ∙ ap (λ (t : Bool). eqb e.source 0 && t) (sum_zero (e.kind + e.image) e.share ∙ ap (λ (t : Bool). t && eqb e.share 0) (sum_zero e.kind e.image))

pub memory_zero : (e : HeldMemory) → eqb (memory_bits e) 0 ≡ is_no_held (held_from e)
memory_zero e =
    let stamp : Bool = eqb e.stamp.0 0 in
    or_zero e.stamp.0 (word e)
    ∙ ap (λ (t : Bool). stamp && t) (word_zero e)
    ∙ sym (and_assoc stamp (eqb e.source 0) (zeros e.kind e.image e.share))
    ∙ ap (λ (t : Bool). stamp && eqb e.source 0 && t) (sym (from_blank e.kind e.image e.share))
