-- Searches over the numbers below a bound, in the order in which a loop counts. Assumes nothing.
use Rattle.std.specs.Prelude.{Bool, true, false, cond, ◌&&◌, ◌||◌, ℕ, zero, suc, max}

-- the test passes at some number below n
unfoldable pub some : ℕ → (ℕ → Bool) → Bool
some zero f = false
some (suc n) f = f n || some n f

-- the test passes at each number below n
unfoldable pub each : ℕ → (ℕ → Bool) → Bool
each zero f = true
each (suc n) f = f n && each n f

-- the largest of f 0, .., f (n - 1), and 0 where n is 0
unfoldable pub largest : ℕ → (ℕ → ℕ) → ℕ
largest zero f = 0
largest (suc n) f = max (f n) (largest n f)

-- the least number below n at which the test passes, and n where there is none
unfoldable pub least : ℕ → (ℕ → Bool) → ℕ
least zero f = 0
least (suc n) f = cond (f 0) 0 (suc (least n (λ k. f (suc k))))

-- how many numbers below n pass the test
unfoldable pub count : ℕ → (ℕ → Bool) → ℕ
count zero f = 0
count (suc n) f = cond (f n) (suc (count n f)) (count n f)

-- the value at the last number below n at which the test passes, and d where there is none
unfoldable pub last_of : {A : Type 0} → ℕ → (ℕ → Bool) → (ℕ → A) → A → A
last_of zero f v d = d
last_of (suc n) f v d = cond (f n) (v n) (last_of n f v d)
