-- The laws of lists of tests. Assumes nothing.
use mathlib.Core.Path.{◌≡◌, refl, sym, ap, ◌∙◌}
use mathlib.Core.Bool.{Bool, true, false, not, cond, ◌&&◌, ◌||◌, and_assoc, and-true, or_assoc, or-false, true≢false}
use mathlib.Core.Logic.{inl, inr}
use mathlib.Core.List.{List, [], ◌∷◌, ◌++◌, map}
use Prim.Native.Nat.{ℕ, zero, suc, ◌<◌}
use native.Mathlib.Omega.{arith}
use borrow.Author.Tests.{not-true, ltb-true, eqb-true, eqb-false, eq-eqb, ne_eqb}
use lib.Dec.{ltb, eqb}
use lib.ListN.{get_or}
use Rattle.lists.specs.Tests.{all_of, any_of, first_of}
use Rattle.lists.specs.Lists.{any}
use Rattle.lists.specs.Members.{In}
use Rattle.lists.proofs.Bools.{and_left_lem, and_right, or_left_lem, or_right}
use Rattle.lists.proofs.Listed.{none_member}

-- each test of the list has the value v
abbrev pub Each : Bool → List Bool → Type 0
Each v [] = Unit {0}
Each v (t ∷ ts) = (t ≡ v) × Each v ts

pub all_each : (ts : List Bool) → all_of ts ≡ true → Each true ts
unfolding all_of
all_each [] e = tt
all_each (t ∷ ts) e = (and_left_lem t (all_of ts) e, all_each ts (and_right t (all_of ts) e))

pub each_all : (ts : List Bool) → Each true ts → all_of ts ≡ true
unfolding all_of
each_all [] e = refl
each_all (t ∷ ts) e = ap (λ (x : Bool). x && all_of ts) e.0 ∙ each_all ts e.1

pub none_each : (ts : List Bool) → any_of ts ≡ false → Each false ts
unfolding any_of
none_each [] e = tt
none_each (t ∷ ts) e = (or_left_lem t (any_of ts) e, none_each ts (or_right t (any_of ts) e))

pub each_none : (ts : List Bool) → Each false ts → any_of ts ≡ false
unfolding any_of
each_none [] e = refl
each_none (t ∷ ts) e = ap (λ (x : Bool). x || any_of ts) e.0 ∙ each_none ts e.1

-- one test that fails, at place i
pub all_miss : (ts : List Bool) (i : ℕ) → get_or ts i true ≡ false → all_of ts ≡ false
unfolding all_of
all_miss [] i e = absurd (true≢false e)
all_miss (t ∷ ts) zero e = ap (λ (x : Bool). x && all_of ts) e
all_miss (t ∷ ts) (suc i) e = go t (all_miss ts i e)
  where
    go : (t : Bool) → all_of ts ≡ false → (t && all_of ts) ≡ false
    go true h = h
    go false h = refl

-- every number of the list is above 0, as a refusal's is
abbrev pub numbered : List (ℕ × Bool) → Bool
numbered [] = true
numbered (c ∷ cs) = ltb 0 c.0 && numbered cs

-- no test of the list passes
abbrev pub NonePass : List (ℕ × Bool) → Type 0
NonePass [] = Unit {0}
NonePass (c ∷ cs) = (c.1 ≡ false) × NonePass cs

-- no refusal: every test of the order of checks failed
pub none_pass : (cs : List (ℕ × Bool)) → numbered cs ≡ true → first_of cs ≡ 0 → NonePass cs
none_pass [] n e = tt
none_pass (c ∷ cs) n e = go c.1 e refl (none_pass cs (and_right (ltb 0 c.0) (numbered cs) n))
  where
    go : (t : Bool) → cond t c.0 (first_of cs) ≡ 0 → c.1 ≡ t → (first_of cs ≡ 0 → NonePass cs) → (c.1 ≡ false) × NonePass cs
    go true q s rest = let z : 0 < c.0 = ltb-true 0 c.0 (and_left_lem (ltb 0 c.0) (numbered cs) n) in absurd (omega arith)
    go false q s rest = (s, rest q)

pub pass_none : (cs : List (ℕ × Bool)) → NonePass cs → first_of cs ≡ 0
pass_none [] n = refl
pass_none (c ∷ cs) n = ap (λ (t : Bool). cond t c.0 (first_of cs)) n.0 ∙ pass_none cs n.1

-- the number found is 0 or a test's
pub first_among : (cs : List (ℕ × Bool)) → In (first_of cs) (0 ∷ map (λ (c : ℕ × Bool). c.0) cs)
first_among [] = inl refl
first_among (c ∷ cs) = go c.1 (first_among cs)
  where
    go : (t : Bool) → In (first_of cs) (0 ∷ map (λ (c : ℕ × Bool). c.0) cs) → In (cond t c.0 (first_of cs)) (0 ∷ c.0 ∷ map (λ (c : ℕ × Bool). c.0) cs)
    go true h = inr (inl refl)
    go false (inl e) = inl e
    go false (inr h) = inr (inr h)

-- what is known where k was found: the tests before its own failed, and its own passed; for 0, all failed
abbrev pub Found : ℕ → List (ℕ × Bool) → Type 0
Found k [] = k ≡ 0
Found k (c ∷ cs) = cond (eqb k c.0) (c.1 ≡ true) ((c.1 ≡ false) × Found k cs)

-- no number of the list is 0 or comes twice
abbrev pub apart : List (ℕ × Bool) → Bool
apart [] = true
apart (c ∷ cs) = not (any (eqb c.0) (0 ∷ map (λ (c : ℕ × Bool). c.0) cs)) && apart cs

pub found : (cs : List (ℕ × Bool)) (k : ℕ) → apart cs ≡ true → first_of cs ≡ k → Found k cs
found [] k n e = sym e
found (c ∷ cs) k n e = go c.1 refl e (eqb k c.0) refl (found cs k (and_right other (apart cs) n))
  where
    numbers : List ℕ
    numbers = 0 ∷ map (λ (c : ℕ × Bool). c.0) cs

    other : Bool
    other = not (any (eqb c.0) numbers)

    go : (t : Bool) → c.1 ≡ t → cond t c.0 (first_of cs) ≡ k → (s : Bool) → eqb k c.0 ≡ s → (first_of cs ≡ k → Found k cs) → cond s (c.1 ≡ true) ((c.1 ≡ false) × Found k cs)
    go true q e true w rest = q
    go true q e false w rest = absurd (eqb-false k c.0 w (sym e))
    go false q e false w rest = (q, rest e)
    go false q e true w rest =
        let same : c.0 ≡ first_of cs = sym (eqb-true k c.0 w) ∙ sym e in
        absurd (true≢false (sym (eq-eqb c.0 (first_of cs) same) ∙ none_member (eqb c.0) numbers (not-true (any (eqb c.0) numbers) (and_left_lem other (apart cs) n)) (first_of cs) (first_among cs)))

-- ---- one order of checks before another
pub first_join : (a b : List (ℕ × Bool)) → numbered a ≡ true → first_of (a ++ b) ≡ cond (eqb (first_of a) 0) (first_of b) (first_of a)
first_join [] b n = refl
first_join (c ∷ a) b n = go c.1 (first_join a b (and_right (ltb 0 c.0) (numbered a) n))
  where
    go : (t : Bool) → first_of (a ++ b) ≡ cond (eqb (first_of a) 0) (first_of b) (first_of a)
        → cond t c.0 (first_of (a ++ b)) ≡ cond (eqb (cond t c.0 (first_of a)) 0) (first_of b) (cond t c.0 (first_of a))
    go true e =
        let z : 0 < c.0 = ltb-true 0 c.0 (and_left_lem (ltb 0 c.0) (numbered a) n) in
        sym (ap (λ (t : Bool). cond t (first_of b) c.0) (ne_eqb c.0 0 (λ q. let w : c.0 ≡ 0 = q in absurd (omega arith))))
    go false e = e

pub first_of_left : (xs ys : List (ℕ × Bool)) → (first_of xs ≡ 0 → ⊥) → first_of (xs ++ ys) ≡ first_of xs
first_of_left [] ys n = absurd (n refl)
first_of_left (c ∷ xs) ys n = go c.1 n (first_of_left xs ys)
  where
    go : (t : Bool) → (cond t c.0 (first_of xs) ≡ 0 → ⊥) → ((first_of xs ≡ 0 → ⊥) → first_of (xs ++ ys) ≡ first_of xs)
        → cond t c.0 (first_of (xs ++ ys)) ≡ cond t c.0 (first_of xs)
    go true n rest = refl
    go false n rest = rest n

pub first_of_right : (xs ys : List (ℕ × Bool)) → numbered xs ≡ true → first_of xs ≡ 0 → first_of (xs ++ ys) ≡ first_of ys
first_of_right xs ys n e = first_join xs ys n ∙ ap (λ (k : ℕ). cond (eqb k 0) (first_of ys) k) e

-- ---- a chain of `&` or `|`, which code writes from the left, is the list of its tests

abbrev and_left : Bool → List Bool → Bool
and_left a [] = a
and_left a (t ∷ ts) = and_left (a && t) ts

abbrev or_left : Bool → List Bool → Bool
or_left a [] = a
or_left a (t ∷ ts) = or_left (a || t) ts

pub all_chain : (t : Bool) (ts : List Bool) → and_left t ts ≡ all_of (t ∷ ts)
unfolding all_of
all_chain t [] = sym (and-true t)
all_chain t (u ∷ ts) = all_chain (t && u) ts ∙ and_assoc t u (all_of ts)

pub any_chain : (t : Bool) (ts : List Bool) → or_left t ts ≡ any_of (t ∷ ts)
unfolding any_of
any_chain t [] = sym (or-false t)
any_chain t (u ∷ ts) = any_chain (t || u) ts ∙ or_assoc t u (any_of ts)

-- ---- a chain of checks, each of which looks at what the one before found, is the order of checks

abbrev pub first_left : ℕ → List (ℕ × Bool) → ℕ
first_left r [] = r
first_left r (c ∷ cs) = first_left (cond (eqb r 0) (cond c.1 c.0 0) r) cs

first_left_lem : (r : ℕ) (cs : List (ℕ × Bool)) → numbered cs ≡ true → first_left r cs ≡ cond (eqb r 0) (first_of cs) r
first_left_lem r [] n = go (eqb r 0) refl
  where
    go : (t : Bool) → eqb r 0 ≡ t → r ≡ cond t 0 r
    go true e = eqb-true r 0 e
    go false e = refl
first_left_lem r (c ∷ cs) n = first_left_lem (cond (eqb r 0) (cond c.1 c.0 0) r) cs (and_right (ltb 0 c.0) (numbered cs) n) ∙ go (eqb r 0) refl c.1
  where
    go : (t : Bool) → eqb r 0 ≡ t → (p : Bool) → cond (eqb (cond t (cond p c.0 0) r) 0) (first_of cs) (cond t (cond p c.0 0) r) ≡ cond t (cond p c.0 (first_of cs)) r
    go true e true =
        let z : 0 < c.0 = ltb-true 0 c.0 (and_left_lem (ltb 0 c.0) (numbered cs) n) in
        ap (λ (t : Bool). cond t (first_of cs) c.0) (ne_eqb c.0 0 (λ q. let w : c.0 ≡ 0 = q in absurd (omega arith)))
    go true e false = refl
    go false e p = ap (λ (t : Bool). cond t (first_of cs) r) e

pub first_chain : (cs : List (ℕ × Bool)) → numbered cs ≡ true → first_left 0 cs ≡ first_of cs
first_chain cs n = first_left_lem 0 cs n
