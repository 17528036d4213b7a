-- One thing after another. Assumes nothing.
use Rattle.std.specs.Prelude.{ℕ, zero, suc}

-- f 0, then f 1, .., then f (n - 1)
unfoldable pub in_turn : {A : Type 0} → ℕ → (ℕ → A → A) → A → A
in_turn zero f a = a
in_turn (suc n) f a = f n (in_turn n f a)
