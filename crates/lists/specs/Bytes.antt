-- Numbers in bytes (01, "All numbers are big-endian"). Assumes nothing.
use Rattle.std.specs.Prelude.{List, [], ◌∷◌, ◌++◌, ℕ, zero, suc, ◌+◌, ◌*◌, ◌/◌, ◌%◌, get_or}

-- a number in k bytes, the most significant first
unfoldable pub be : ℕ → ℕ → List ℕ
be zero x = []
be (suc k) x = be k (x / 256) ++ ((x % 256) ∷ [])

-- the number in the k bytes from a place on; a byte past the end counts as 0
unfoldable pub val_at : List ℕ → ℕ → ℕ → ℕ
val_at bs at zero = 0
val_at bs at (suc k) = val_at bs at k * 256 + get_or bs (at + k) 0
