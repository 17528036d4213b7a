-- Loops over the places of an array: that its first places rise, that the others are unused, and that a list is written into it. Assumes nothing.
use mathlib.Core.Path.{◌≡◌, refl, ap, ap₂, ◌∙◌}
use mathlib.Core.Bool.{Bool, true, false, ◌&&◌}
use mathlib.Core.List.{List}
use Prim.Native.Nat.{ℕ, ◌+◌, ◌≤◌, ◌<◌}
use native.Mathlib.Numerals.{add-one}
use lib.ListN.{length, drop, get_or, set, length-set}
use lib.Seq.{paste, paste-zero, paste-suc}
use Rattle.lists.specs.Lists.{all, rising, rising_from}
use Rattle.lists.proofs.Loops.{left_next, left_none, all_turn, all_end}

-- ---- a loop that tests that a list rises and starts before its first element: there is none before it yet

module _ {A : Type 0} (r : A → A → Bool) where
  -- what is left rises: by itself before the first turn, then from the element before, w
  abbrev pub rises_after : Bool → A → List A → Bool
  rises_after true w l = rising r l
  rises_after false w l = rising_from r w l

-- ---- a loop that tests every place from n on

-- ok is what was found before the place i, and the places from i on are left to test
pub record Tested {A : Type 0} (p : A → Bool) (l : List A) (n : ℕ) (ok : Bool) (i : ℕ) : Type 0 where
  pub left : (ok && all p (drop i l)) ≡ all p (drop n l)

module _ {A : Type 0} {p : A → Bool} {l : List A} {n i : ℕ} where
  pub tested_turn : (z : A) {ok b : Bool} → Tested p l n ok i → i < length l → b ≡ p (get_or l i z) → Tested p l n (ok && b) (i + 1)
  tested_turn z {ok} {b} s h e = record { left = all_turn p ok b (left_next l z i h) s.left e }

  pub tested_end : {ok : Bool} → Tested p l n ok i → length l ≤ i → ok ≡ all p (drop n l)
  tested_end {ok} s h = all_end p ok (left_none l i h) s.left

-- ---- a loop that writes the elements of b into a list, from the place at on

-- the first j are written
pub record Pasted {A : Type 0} (l : List A) (at : ℕ) (b : List A) (out : List A) (j : ℕ) : Type 0 where
  pub long : length out ≡ length l
  pub is : out ≡ paste l at b j

module _ {A : Type 0} {l b : List A} {at : ℕ} where
  pub paste_start : Pasted l at b l 0
  paste_start = record { long = refl; is = paste-zero l at b }

  pub paste_turn : {out : List A} {j : ℕ} (d : A) → Pasted l at b out j → j < length b → at + j < length l → Pasted l at b (set out (at + j) (get_or b j d)) (j + 1)
  paste_turn {out} {j} d s h k =
      record {
        long = length-set out (at + j) (get_or b j d) ∙ s.long;
        is = rw add-one (ap (λ (t : List A). set t (at + j) (get_or b j d)) s.is ∙ paste-suc l at b j d k h);
      }

  pub paste_end : (k : ℕ) {out e : List A} {j : ℕ} → Pasted l at b out j → j ≡ k → b ≡ e → out ≡ paste l at e k
  paste_end k s q f = s.is ∙ ap₂ (paste l at) f q
