-- The size of a set, which is its number of ones, is how many hosts or links are in it. Assumes nothing.
use mathlib.Core.Path.{◌≡◌, refl, sym, ap, ◌∙◌}
use mathlib.Core.Bool.{Bool, cond}
use Prim.Native.Nat.{ℕ, zero, suc, ◌+◌, ◌/◌, ◌%◌, ◌^◌, ◌<◌}
use native.Mathlib.Nat.{mod-lt, zero-lt-suc, le_of_suc-le-suc, not-suc-le-zero}
use native.Mathlib.Numerals.{add-one}
use native.Mathlib.Omega.{arith}
use lib.Dec.{eqb}
use lib.Count.{ones, ones_in, ones_step}
use lib.Pow.{shr_lt}
use Rattle.lists.specs.Searches.{count}
use Rattle.lists.proofs.CountLaws.{count_low, count_same}
use Rattle.network.specs.Network.{has}
use Rattle.network.proofs.Bits.{has_low, has_high}

digit : (x c : ℕ) → x < 2 → cond (eqb x 1) (suc c) c ≡ x + c
digit zero c h = omega arith
digit (suc zero) c h = omega arith
digit (suc (suc x)) c h = absurd (not-suc-le-zero (le_of_suc-le-suc (le_of_suc-le-suc h)))

lowest : (set c : ℕ) → cond (has set 0) (suc c) c ≡ set % 2 + c
lowest set c = ap (λ (t : Bool). cond t (suc c) c) (has_low set) ∙ digit (set % 2) c (mod-lt set (zero-lt-suc 1))

pub size_is : (k set : ℕ) → set < 2 ^ k → count k (has set) ≡ ones set
unfolding count ones ones_in
size_is zero zero h = refl
size_is zero (suc set) h = absurd (not-suc-le-zero (le_of_suc-le-suc h))
size_is (suc k) set h =
    let half : set / 2 < 2 ^ k = shr_lt {n = set} k 1 (rw add-one h) in
    count_low k (has set)
    ∙ lowest set (count k (λ i. has set (suc i)))
    ∙ ap (λ (c : ℕ). set % 2 + c) (count_same k (λ i. has set (suc i)) (has (set / 2)) (has_high set) ∙ size_is k (set / 2) half)
    ∙ sym (ones_step set)
