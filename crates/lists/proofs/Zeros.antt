-- A number made of others is 0 just where they are, so that one test tells of all of them. Assumes nothing.
use mathlib.Core.Path.{◌≡◌, refl, sym, ap, ◌∙◌, subst}
use mathlib.Core.Bool.{Bool, true, false, ◌&&◌, true≢false}
use mathlib.Core.List.{List}
use Prim.Native.Nat.{ℕ, ◌+◌, ◌<◌}
use native.Mathlib.Omega.{arith}
use borrow.Author.Tests.{eqb-true, eq-eqb}
use lib.Dec.{eqb}
use lib.ListN.{length, get_or}
use lib.Bits.{bit_or, or_add_and, and_le_l, and_le_r}
use Rattle.lists.proofs.Bools.{false_unless, and_left_lem, and_right}
use Rattle.lists.proofs.Walks.{Tested, tested_turn}

pub both_zero : (n a b : ℕ) → (n ≡ 0 → (a ≡ 0) × (b ≡ 0)) → (a ≡ 0 → b ≡ 0 → n ≡ 0) → eqb n 0 ≡ (eqb a 0 && eqb b 0)
both_zero n a b parts whole = go (eqb n 0) refl
  where
    go : (t : Bool) → eqb n 0 ≡ t → t ≡ (eqb a 0 && eqb b 0)
    go true e = let none = parts (eqb-true n 0 e) in rw (none.0, none.1) refl
    go false e =
        sym (false_unless (eqb a 0 && eqb b 0) (λ q.
        true≢false (sym (eq-eqb n 0 (whole (eqb-true a 0 (and_left_lem (eqb a 0) (eqb b 0) q)) (eqb-true b 0 (and_right (eqb a 0) (eqb b 0) q)))) ∙ e)))

pub sum_zero : (a b : ℕ) → eqb (a + b) 0 ≡ (eqb a 0 && eqb b 0)
sum_zero a b = both_zero (a + b) a b (λ e. (omega arith, omega arith)) (λ x y. omega arith)

pub or_zero : (a b : ℕ) → eqb (bit_or a b) 0 ≡ (eqb a 0 && eqb b 0)
or_zero a b =
    both_zero (bit_or a b) a b
    (λ e. (omega (arith, e, or_add_and a b, and_le_l a b, and_le_r a b), omega (arith, e, or_add_and a b, and_le_l a b, and_le_r a b)))
    (λ x y. rw (x, y) refl)

-- a loop that gathers a number of each place into one, where the number is 0 just where the place passes a test
pub gather_turn : {A : Type 0} {p : A → Bool} {l : List A} {n i : ℕ} (x : A) (bits b : ℕ) → Tested p l n (eqb bits 0) i → i < length l → x ≡ get_or l i x → eqb b 0 ≡ p x
    → Tested p l n (eqb (bit_or bits b) 0) (i + 1)
gather_turn {p = p} {l = l} {n = n} {i = i} x bits b s h is e =
    subst (λ (t : Bool). Tested p l n t (i + 1)) (sym (or_zero bits b)) (tested_turn x s h (e ∙ ap p is))
