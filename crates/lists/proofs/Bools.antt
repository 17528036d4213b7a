-- What a conjunction, a disjunction or a choice tells of its parts. Assumes nothing.
use mathlib.Core.Path.{◌≡◌, refl}
use mathlib.Core.Bool.{Bool, true, false, cond, ◌&&◌, ◌||◌, true≢false, false≢true}
use mathlib.Core.Logic.{◌⊎◌, inl, inr}
use Prim.Native.Nat.{ℕ, ◌≤◌, ◌<◌, zero-le}
use native.Mathlib.Nat.{le_trans, not-suc-le-zero}

pub false_unless : (b : Bool) → (b ≡ true → ⊥) → b ≡ false
false_unless true f = absurd (f refl)
false_unless false f = refl

pub and_left_lem : (a b : Bool) → (a && b) ≡ true → a ≡ true
and_left_lem true b e = refl
and_left_lem false b e = e

pub and_right : (a b : Bool) → (a && b) ≡ true → b ≡ true
and_right true b e = e
and_right false b e = absurd (false≢true e)

pub or_left_lem : (a b : Bool) → (a || b) ≡ false → a ≡ false
or_left_lem true b e = e
or_left_lem false b e = refl

pub or_right : (a b : Bool) → (a || b) ≡ false → b ≡ false
or_right true b e = absurd (true≢false e)
or_right false b e = e

pub or_true_left : (a b : Bool) → a ≡ true → (a || b) ≡ true
or_true_left true b e = refl
or_true_left false b e = absurd (false≢true e)

pub or_true_right : (a b : Bool) → b ≡ true → (a || b) ≡ true
or_true_right true b e = refl
or_true_right false b e = e

pub or_cases : (a b : Bool) → (a || b) ≡ true → (a ≡ true) ⊎ (b ≡ true)
or_cases true b e = inl refl
or_cases false b e = inr e

pub or_swap : (a b c : Bool) → (a || (b || c)) ≡ (b || (a || c))
or_swap true true c = refl
or_swap true false c = refl
or_swap false b c = refl

-- a number that is taken only where the test passes, and one that is taken only where it fails
pub then_le : (t : Bool) {x k : ℕ} → (t ≡ true → x ≤ k) → cond t x 0 ≤ k
then_le true f = f refl
then_le false f = zero-le

pub else_le : (t : Bool) {x k : ℕ} → (t ≡ false → x ≤ k) → cond t 0 x ≤ k
else_le true f = zero-le
else_le false f = f refl

pub then_at : (t : Bool) {x k : ℕ} → 0 < k → k ≤ cond t x 0 → (t ≡ true) × (k ≤ x)
then_at true h l = (refl, l)
then_at false h l = absurd (not-suc-le-zero (le_trans h l))

pub else_at : (t : Bool) {x k : ℕ} → 0 < k → k ≤ cond t 0 x → (t ≡ false) × (k ≤ x)
else_at true h l = absurd (not-suc-le-zero (le_trans h l))
else_at false h l = (refl, l)
