-- The last four starts with one more: put behind fewer than four, or behind the last three of four. Assumes nothing.
use mathlib.Core.Path.{◌≡◌, refl, sym, ap, ◌∙◌}
use mathlib.Core.List.{List, [], ◌∷◌}
use Prim.Native.Nat.{ℕ, ◌+◌, ◌-◌}
use native.Mathlib.Nat.{le_of_eq}
use native.Mathlib.Omega.{arith}
use lib.ListN.{length, take, drop, get_or, length-append, length-drop}
use lib.Seq.{take_all}
use Rattle.lists.specs.Lists.{pad}
use Rattle.clock.specs.declared.Reading.{Reading}
use Rattle.host.specs.State.{no_reading}
use Rattle.host.specs.Start.{with_start}

pub with_length : (l : List Reading) (u : Reading) (k : ℕ) → length l ≡ k → length (with_start l u) ≡ k - (k - 3) + 1
with_length l u k n =
    length-append (drop (length l - 3) l) (u ∷ []) ∙ ap (λ (m : ℕ). m + 1) (length-drop (length l - 3) l) ∙ ap (λ (m : ℕ). m - (m - 3) + 1) n

-- the first k of four, and one more behind them
pub put_behind : (l : List Reading) (u : Reading) (k n : ℕ) → length l ≡ 4 → n ≡ k
    → pad 4 no_reading (with_start (take k (get_or l 0 no_reading ∷ get_or l 1 no_reading ∷ get_or l 2 no_reading ∷ get_or l 3 no_reading ∷ [])) u) ≡ pad 4 no_reading (with_start (take n l) u)
put_behind l u k n h e =
    ap (λ (t : List Reading). pad 4 no_reading (with_start (take k t) u)) (sym (four l h)) ∙ ap (λ (j : ℕ). pad 4 no_reading (with_start (take j l) u)) (sym e)
  where
    four : (l : List Reading) → length l ≡ 4 → l ≡ (get_or l 0 no_reading ∷ get_or l 1 no_reading ∷ get_or l 2 no_reading ∷ get_or l 3 no_reading ∷ [])
    four [] h = absurd (omega arith)
    four (a ∷ []) h = absurd (omega arith)
    four (a ∷ b ∷ []) h = absurd (omega arith)
    four (a ∷ b ∷ c ∷ []) h = absurd (omega arith)
    four (a ∷ b ∷ c ∷ d ∷ []) h = refl
    four (a ∷ b ∷ c ∷ d ∷ e ∷ l) h = absurd (omega arith)

pub in_place : (l : List Reading) (u : Reading) → length l ≡ 4
    → (get_or l 1 no_reading ∷ get_or l 2 no_reading ∷ get_or l 3 no_reading ∷ u ∷ []) ≡ pad 4 no_reading (with_start l u)
in_place l u h = put_behind l u 4 4 h refl ∙ ap (λ (t : List Reading). pad 4 no_reading (with_start t u)) (take_all 4 l (le_of_eq h))
