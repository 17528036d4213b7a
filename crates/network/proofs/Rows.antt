-- The product that `spread` is made of. A number of eight digits to the base 256 that are 0 or 1, times a row of one such digit, is the row
-- at each digit that is 1: so the hosts a that are joined to c get the row of c. Assumes nothing.
use mathlib.Core.Path.{◌≡◌, refl, sym, ap, ap₂, ◌∙◌, subst}
use mathlib.Core.Bool.{Bool, true, ◌&&◌}
use Prim.Native.Nat.{ℕ, zero, suc, ◌+◌, ◌-◌, ◌*◌, ◌/◌, ◌%◌, ◌^◌, ◌≤◌, ◌<◌}
use native.Mathlib.Nat.{add_comm, mul-add, mul-le-mul, mul_assoc, mul-zero, mul-one, div-one, mod-lt, zero-lt-suc, le_refl, le_trans, le-suc, le_of_suc-le-suc, lt_of_le_of_lt, not-suc-le-zero, div-add-mod'}
use native.Mathlib.Omega.{arith}
use borrow.Author.Tests.{eqb-true}
use lib.Arith.{digits_div, digits_mod}
use lib.Dec.{eqb, lit<}
use lib.Bits.{bit_and, and_le_r, and_shr, and_mod, and_mask}
use lib.Pow.{shr-shr, field, mod-mod-pow}
use Rattle.lists.specs.Searches.{each}
use Rattle.lists.proofs.SearchLaws.{each_true}
use Rattle.network.specs.Network.{has}
use Rattle.network.specs.Inside.{pair}
use Rattle.network.proofs.Bits.{has_shr, has_none}

-- the low bits of a number are its own
pub has_mod : (w x i : ℕ) → i < w → has (x % 2 ^ w) i ≡ has x i
unfolding has
has_mod w x i h =
    let up : w ≡ ((w - i - 1) + 1) + i = omega arith in
    ap (λ (k : ℕ). eqb (x % 2 ^ k / 2 ^ i % 2) 1) up
    ∙ ap (λ (y : ℕ). eqb (y % 2) 1) (field x ((w - i - 1) + 1) i)
    ∙ ap (λ (y : ℕ). eqb y 1) (mod-mod-pow (x / 2 ^ i) (w - i - 1) 1)

module _ (r : ℕ) (row : r < 256) where
  times_lt : (d : ℕ) → d ≤ 1 → r * d < 256
  times_lt zero h = subst (λ (x : ℕ). x < 256) (sym (mul-zero r)) (zero-lt-suc 255)
  times_lt (suc zero) h = subst (λ (x : ℕ). x < 256) (sym (mul-one r)) row
  times_lt (suc (suc d)) h = absurd (not-suc-le-zero (le_of_suc-le-suc h))

  parts : (M : ℕ) → r * M ≡ r * (M / 256) * 256 + r * (M % 256)
  parts M =
      ap (λ (x : ℕ). r * x) (sym (div-add-mod' M 256)) ∙ mul-add r (M / 256 * 256) (M % 256)
      ∙ ap (λ (x : ℕ). x + r * (M % 256)) (sym (mul_assoc r (M / 256) 256))

  rest : (M : ℕ) → M % 256 ≤ 1 → r * M / 256 ≡ r * (M / 256)
  rest M h = ap (λ (x : ℕ). x / 256) (parts M) ∙ digits_div (r * (M / 256)) (times_lt (M % 256) h)

  lowest : (M : ℕ) → M % 256 ≤ 1 → r * M % 256 ≡ r * (M % 256)
  lowest M h = ap (λ (x : ℕ). x % 256) (parts M) ∙ digits_mod (r * (M / 256)) (times_lt (M % 256) h)

  shifted : (M x : ℕ) → ((y : ℕ) → y < x → M / 2 ^ (8 * y) % 256 ≤ 1) → r * M / 2 ^ (8 * x) ≡ r * (M / 2 ^ (8 * x))
  shifted M zero h = div-one (r * M) ∙ ap (λ (y : ℕ). r * y) (sym (div-one M))
  shifted M (suc x) h =
      let up : 8 * suc x ≡ 8 * x + 8 = omega arith in
      ap (λ (k : ℕ). r * M / 2 ^ k) up
      ∙ sym (shr-shr (r * M) (8 * x) 8)
      ∙ ap (λ (y : ℕ). y / 256) (shifted M x (λ y l. h y (le_trans l (le-suc x))))
      ∙ rest (M / 2 ^ (8 * x)) (h x (le_refl (suc x)))
      ∙ ap (λ (y : ℕ). r * y) (shr-shr M (8 * x) 8 ∙ ap (λ (k : ℕ). M / 2 ^ k) (sym up))

-- ---- the column of c

column_table : each 8 (λ x. eqb (72340172838076673 / 2 ^ (8 * x) % 256) 1) ≡ true
unfolding each
column_table = refl

column : (J x : ℕ) → x < 8 → bit_and J 72340172838076673 / 2 ^ (8 * x) % 256 ≡ J / 2 ^ (8 * x) % 2
column J x h =
    ap (λ (y : ℕ). y % 256) (and_shr J 72340172838076673 (8 * x))
    ∙ and_mod (J / 2 ^ (8 * x)) (72340172838076673 / 2 ^ (8 * x)) 8
    ∙ ap (λ (y : ℕ). bit_and (J / 2 ^ (8 * x) % 256) y) (eqb-true _ _ (each_true (λ x. eqb (72340172838076673 / 2 ^ (8 * x) % 256) 1) 8 column_table x h))
    ∙ and_mask (J / 2 ^ (8 * x) % 256) 1
    ∙ mod-mod-pow (J / 2 ^ (8 * x)) 7 1

column_low : (J x : ℕ) → x < 8 → bit_and J 72340172838076673 / 2 ^ (8 * x) % 256 ≤ 1
column_low J x h = let e = column J x h in let l = mod-lt (J / 2 ^ (8 * x)) (zero-lt-suc 1) in omega (arith, e, l)

choose : (r d b : ℕ) → d < 2 → has (r * d) b ≡ (eqb d 1 && has r b)
choose r zero b h = ap (λ (x : ℕ). has x b) (mul-zero r) ∙ has_none b
choose r (suc zero) b h = ap (λ (x : ℕ). has x b) (mul-one r)
choose r (suc (suc d)) b h = absurd (not-suc-le-zero (le_of_suc-le-suc (le_of_suc-le-suc h)))

pub row_has : (near joined a b c : ℕ) → a < 8 → b < 8
    → has ((near / 2 ^ (8 * c) % 256) * bit_and (joined / 2 ^ c) 72340172838076673) (pair a b) ≡ (has joined (pair a c) && has near (pair c b))
unfolding has
row_has near joined a b c ha hb =
    sym (has_shr (r * M) (8 * a) b)
    ∙ ap (λ (x : ℕ). has x b) (shifted r row M a (λ y l. column_low J y (le_trans l (omega arith))))
    ∙ sym (has_mod 8 (r * (M / 2 ^ (8 * a))) b hb)
    ∙ ap (λ (x : ℕ). has x b) (lowest r row (M / 2 ^ (8 * a)) (column_low J a ha) ∙ ap (λ (x : ℕ). r * x) (column J a ha))
    ∙ choose r (J / 2 ^ (8 * a) % 2) b (mod-lt (J / 2 ^ (8 * a)) (zero-lt-suc 1))
    ∙ ap₂ (λ (s t : Bool). s && t) joint (has_mod 8 (near / 2 ^ (8 * c)) b hb ∙ has_shr near (8 * c) b)
  where
    r : ℕ
    r = near / 2 ^ (8 * c) % 256

    row : r < 256
    row = mod-lt (near / 2 ^ (8 * c)) (zero-lt-suc 255)

    J : ℕ
    J = joined / 2 ^ c

    M : ℕ
    M = bit_and J 72340172838076673

    joint : eqb (J / 2 ^ (8 * a) % 2) 1 ≡ has joined (pair a c)
    joint = has_shr joined c (8 * a) ∙ ap (has joined) (add_comm c (8 * a))

pub row_fits : (near J : ℕ) → (near % 256) * bit_and J 72340172838076673 < 2 ^ 64
row_fits near J =
    let row : near % 256 ≤ 255 = omega arith in
    let most : (near % 256) * bit_and J 72340172838076673 ≤ 255 * 72340172838076673 = mul-le-mul row (and_le_r J 72340172838076673) in
    lt_of_le_of_lt most (lit< tt)
