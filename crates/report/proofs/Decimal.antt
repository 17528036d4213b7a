-- A number of at most 20 digits is told whole: its digits read back to it. Assumes nothing.
use mathlib.Core.Path.{◌≡◌, refl, ◌∙◌}
use mathlib.Core.Bool.{Bool, true, false, cond}
use mathlib.Core.List.{List, [], ◌∷◌, ◌++◌}
use Prim.Native.Nat.{ℕ, zero, suc, ◌+◌, ◌-◌, ◌*◌, ◌/◌, ◌%◌, ◌^◌, ◌<◌}
use native.Mathlib.Nat.{pow-suc}
use native.Mathlib.Omega.{arith}
use borrow.Author.Tests.{ltb-false}
use lib.Dec.{ltb}
use Rattle.report.specs.Text.{digits, decimal}

-- the number that digits say, after a number read so far
unfoldable pub read_on : ℕ → List ℕ → ℕ
read_on x [] = x
read_on x (d ∷ ds) = read_on (x * 10 + (d - 48)) ds

read_append : (x : ℕ) (xs ys : List ℕ) → read_on x (xs ++ ys) ≡ read_on (read_on x xs) ys
unfolding read_on
read_append x [] ys = refl
read_append x (d ∷ xs) ys = read_append (x * 10 + (d - 48)) xs ys

-- the last digit, after all others
read_last : (x : ℕ) (ds : List ℕ) → read_on 0 ds ≡ x / 10 → read_on 0 (ds ++ ((48 + x % 10) ∷ [])) ≡ x
unfolding read_on
read_last x ds e = let a = read_append 0 ds ((48 + x % 10) ∷ []) in a ∙ last (read_on 0 ds) e
  where
    last : (r : ℕ) → r ≡ x / 10 → r * 10 + (48 + x % 10 - 48) ≡ x
    last r e = omega arith

pub digits_read : (k x : ℕ) → x < 10 ^ suc k → read_on 0 (digits (suc k) x) ≡ x
unfolding digits read_on
digits_read zero x h = go (ltb x 10) refl
  where
    go : (t : Bool) → ltb x 10 ≡ t → read_on 0 (cond t ((48 + x) ∷ []) ([] ++ ((48 + x % 10) ∷ []))) ≡ x
    go true e = omega arith
    go false e = let l = ltb-false x 10 e in absurd (omega (arith, pow-suc 10 0))
digits_read (suc k) x h = go (ltb x 10) (digits_read k (x / 10) (omega (arith, pow-suc 10 (suc k))))
  where
    go : (t : Bool) → read_on 0 (digits (suc k) (x / 10)) ≡ x / 10 → read_on 0 (cond t ((48 + x) ∷ []) (digits (suc k) (x / 10) ++ ((48 + x % 10) ∷ []))) ≡ x
    go true ih = omega arith
    go false ih = read_last x (digits (suc k) (x / 10)) ih

-- every number of 64 bits
pub decimal_read : (x : ℕ) → x < 2 ^ 64 → read_on 0 (decimal x) ≡ x
decimal_read x h = digits_read 19 x (omega arith)
