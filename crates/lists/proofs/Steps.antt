-- The loop that walks a list, whatever its elements are: each is fit, and stands after the one before it, if there is one. What is left to walk still
-- decides, so a test that fails there fails of the whole. Assumes nothing.
use mathlib.Core.Path.{◌≡◌, sym, ◌∙◌}
use mathlib.Core.Bool.{Bool, true, false, ◌&&◌}
use mathlib.Core.List.{List, [], ◌∷◌}
use Rattle.std.proofs.Common.{Option, None, Some}
use Prim.Native.Nat.{ℕ, ◌+◌, ◌≤◌}
use lib.ListN.{length, drop}
use Rattle.lists.specs.Lists.{all, rising, rising_from, follows}
use Rattle.lists.proofs.Loops.{left_none, all_turn, all_end}

module _ {A : Type 0} (r : A → A → Bool) where
  -- what is left rises after the element before it
  abbrev pub rises_since : Option A → List A → Bool
  rises_since None l = rising r l
  rises_since (Some w) l = rising_from r w l

  since_turn : {left rest : List A} {x : A} {t : Bool} (o : Option A) {b : Bool} (ok : Bool) → left ≡ x ∷ rest → rises_since o left ≡ t → b ≡ follows r o x → b ≡ ok
      → (ok && rises_since (Some x) rest) ≡ t
  since_turn None ok s inv e q = rw (← q, e) (rw s at inv)
  since_turn (Some w) ok s inv e q = rw (← q, e) (rw s at inv)

  since_end : {left : List A} {t : Bool} (o : Option A) → left ≡ [] → rises_since o left ≡ t → t ≡ true
  since_end None s inv = sym (rw s at inv)
  since_end (Some w) s inv = sym (rw s at inv)

-- the elements before i are walked, and o is the last of them
pub record Stepped {A : Type 0} (fits : A → Bool) (r : A → A → Bool) (l : List A) (o : Option A) (i : ℕ) : Type 0 where
  pub fit : all fits (drop i l) ≡ all fits l
  pub rise : rises_since r o (drop i l) ≡ rising r l

module _ {A : Type 0} {fits : A → Bool} {r : A → A → Bool} {l : List A} {o : Option A} {i : ℕ} (s : Stepped fits r l o i) where
  module _ (x : A) (next : drop i l ≡ x ∷ drop (i + 1) l) where
    -- b is what the test of the element found
    pub step_unfit : {b : Bool} → b ≡ fits x → b ≡ false → all fits l ≡ false
    step_unfit e q = sym (all_turn fits true false next s.fit (sym q ∙ e))

    pub step_unordered : {b : Bool} → b ≡ follows r o x → b ≡ false → rising r l ≡ false
    step_unordered e q = sym (since_turn r o false next s.rise e q)

    pub step_turn : {a b : Bool} → a ≡ fits x → a ≡ true → b ≡ follows r o x → b ≡ true → Stepped fits r l (Some x) (i + 1)
    step_turn d p e q = record { fit = all_turn fits true true next s.fit (sym p ∙ d); rise = since_turn r o true next s.rise e q }

  module _ (end : length l ≤ i) where
    pub step_fit : all fits l ≡ true
    step_fit = sym (all_end fits true (left_none l i end) s.fit)

    pub step_rise : rising r l ≡ true
    step_rise = since_end r o (left_none l i end) s.rise
