-- One thing after another: one turn of a loop, what every turn keeps, and how far it grows. Assumes nothing.
use mathlib.Core.Path.{◌≡◌, refl, sym, ap, ◌∙◌}
use mathlib.Core.Bool.{Bool, true, false, cond}
use mathlib.Core.List.{List, ◌++◌, append-nil}
use Prim.Native.Nat.{ℕ, zero, suc, ◌+◌, ◌-◌, ◌*◌, ◌≤◌, ◌<◌}
use native.Mathlib.Numerals.{add-one}
use native.Mathlib.Omega.{arith}
use lib.ListN.{length, get_or, replicate}
use lib.Seq.{ext_get_or}
use Rattle.lists.specs.Lists.{listed, pad}
use Rattle.lists.proofs.Listing.{length_listed, get_or_listed}
use Rattle.engine.specs.Turns.{in_turn}

module _ {A : Type 0} (f : ℕ → A → A) where
  pub no_turn : (a : A) → a ≡ in_turn 0 f a
  unfolding in_turn
  no_turn a = refl

  pub turn : (n : ℕ) (a b r : A) → b ≡ in_turn n f a → r ≡ f n b → r ≡ in_turn (n + 1) f a
  unfolding in_turn
  turn n a b r e h = rw (add-one n) (h ∙ ap (f n) e)

  pub last_turn : (i n : ℕ) (a r : A) → i ≤ n → n ≤ i → r ≡ in_turn i f a → r ≡ in_turn n f a
  last_turn i n a r l h e = let same : i ≡ n = omega arith in e ∙ ap (λ (k : ℕ). in_turn k f a) same

  -- what each of the first n turns keeps holds after them
  pub keeps : (P : ℕ → A → Type 0) (n : ℕ) (a : A) → P 0 a → ((i : ℕ) (b : A) → i < n → P i b → P (suc i) (f i b)) → P n (in_turn n f a)
  unfolding in_turn
  keeps P zero a p step = p
  keeps P (suc n) a p step = step n (in_turn n f a) (omega arith) (keeps P n a p (λ i b h q. step i b (omega arith) q))

  -- a number that no turn raises by more than k
  pub grows : (μ : A → ℕ) (k n : ℕ) (a : A) → ((i : ℕ) (b : A) → μ (f i b) ≤ μ b + k) → μ (in_turn n f a) ≤ μ a + n * k
  unfolding in_turn
  grows μ k zero a step = omega arith
  grows μ k (suc n) a step =
      let one : μ (f n (in_turn n f a)) ≤ μ (in_turn n f a) + k = step n (in_turn n f a) in
      let all : μ (in_turn n f a) ≤ μ a + n * k = grows μ k n a step in
      omega arith

-- a turn that does something where a test passes
module _ {A : Type 0} (test : ℕ → A → Bool) (g : ℕ → A → A) where
  pub turn_if : (n : ℕ) (a b r : A) → b ≡ in_turn n (λ i x. cond (test i x) (g i x) x) a → test n b ≡ true → r ≡ g n b
      → r ≡ in_turn (n + 1) (λ i x. cond (test i x) (g i x) x) a
  turn_if n a b r e t h = let one : g n b ≡ cond (test n b) (g n b) b = simp t in turn (λ i x. cond (test i x) (g i x) x) n a b r e (h ∙ one)

  pub turn_else : (n : ℕ) (a b : A) → b ≡ in_turn n (λ i x. cond (test i x) (g i x) x) a → test n b ≡ false
      → b ≡ in_turn (n + 1) (λ i x. cond (test i x) (g i x) x) a
  turn_else n a b e t = let one : b ≡ cond (test n b) (g n b) b = simp t in turn (λ i x. cond (test i x) (g i x) x) n a b b e one

-- the list that holds f of each place
pub listed_of : {A : Type 0} (d : A) (f : ℕ → A) (n : ℕ) (l : List A) → length l ≡ n → ((i : ℕ) → i < n → get_or l i d ≡ f i) → l ≡ listed n f
listed_of d f n l e h = ext_get_or d l (listed n f) (e ∙ sym (length_listed n f)) (λ i k. h i (omega arith) ∙ sym (get_or_listed n f i d (omega arith)))

-- a list that fills its array has no place behind it
pub full : {A : Type 0} (N : ℕ) (z : A) (l : List A) → length l ≡ N → pad N z l ≡ l
full {A} N z l e = let none : N - length l ≡ 0 = omega arith in ap (λ (k : ℕ). l ++ replicate k z) none ∙ append-nil l
