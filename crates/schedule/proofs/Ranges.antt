-- A test at some number of a range, and the order of numbers, as std has them. Assumes nothing.
use mathlib.Core.Path.{◌≡◌, refl, sym, ap, ◌∙◌}
use mathlib.Core.Bool.{Bool, true, false, ◌||◌, cond}
use Prim.Native.Nat.{ℕ, zero, suc, ◌+◌}
use native.Mathlib.Nat.{add-zero}
use native.Mathlib.Omega.{arith}
use lib.Dec.{ltb, eqb}
use Rattle.std.specs.List.{range_with_len, list_any}
use Rattle.std.proofs.Common.{Less, Equal, Greater, is_lt, nat_cmp}
use Rattle.lists.specs.Searches.{some}
use Rattle.lists.proofs.SearchLaws.{some_same}

swap : (a b c : Bool) → (a || (b || c)) ≡ (b || (a || c))
swap true true c = refl
swap true false c = refl
swap false true c = refl
swap false false c = refl

-- the first number apart
some_front : (n : ℕ) (f : ℕ → Bool) → some (suc n) f ≡ (f 0 || some n (λ i. f (suc i)))
unfolding some
some_front zero f = refl
some_front (suc n) f = ap (λ t. f (suc n) || t) (some_front n f) ∙ swap (f (suc n)) (f 0) (some n (λ i. f (suc i)))

any_range : (f : ℕ → Bool) (a n : ℕ) → list_any f (range_with_len a n) ≡ some n (λ i. f (a + i))
unfolding some
any_range f a zero = refl
any_range f a (suc n) =
    ap (λ t. f a || t) (any_range f (a + 1) n ∙ some_same n _ _ (λ i h. let e : a + 1 + i ≡ a + suc i = omega arith in ap f e))
    ∙ ap (λ k. f k || some n (λ i. f (a + suc i))) (sym (add-zero a))
    ∙ sym (some_front n (λ i. f (a + i)))

pub any_below : (f : ℕ → Bool) (n : ℕ) → list_any f (range_with_len 0 n) ≡ some n f
any_below f n = any_range f 0 n ∙ some_same n _ _ (λ i h. let e : 0 + i ≡ i = omega arith in ap f e)

-- an order of ticks is that of their numbers
pub earlier_lem : (x y : ℕ) → is_lt (nat_cmp x y) ≡ ltb x y
earlier_lem x y = go (ltb x y)
  where
    go : (t : Bool) → is_lt (cond t Less (cond (eqb x y) Equal Greater)) ≡ t
    go true = refl
    go false = last (eqb x y)
      where
        last : (t : Bool) → is_lt (cond t Equal Greater) ≡ false
        last true = refl
        last false = refl
