-- Each promise admits one result only: it is an equation with a definition, and where it is of an answer's numbers, those are one-to-one.
-- Assumes nothing.
use mathlib.Core.Path.{◌≡◌, sym, ap, ◌∙◌}
use mathlib.Core.Bool.{Bool}
use mathlib.Core.List.{List, [], ◌∷◌, ◌++◌}
use Prim.Native.Nat.{ℕ, ◌+◌}
use lib.ListN.{length, take, drop}
use Rattle.lists.specs.Lists.{put_in}

-- a number, a truth, a list or a state that the promise names
pub one_result : {A : Type 0} {defined r s : A} → r ≡ defined → s ≡ defined → r ≡ s
one_result x y = x ∙ sym y

-- an answer whose numbers the promise names, where the numbers lead back to the answer
pub one_answer : {A B : Type 0} (says : A → B) (back : B → A) → ((a : A) → back (says a) ≡ a) → {defined : B} (r s : A) → says r ≡ defined → says s ≡ defined → r ≡ s
one_answer says back leads r s x y = sym (leads r) ∙ ap back (one_result x y) ∙ leads s

-- what a call leaves of a state, and its answer
pub one_call : {S A B : Type 0} (says : A → B) (back : B → A) → ((a : A) → back (says a) ≡ a) → {left : S} {defined : B} (g h : S) (r s : A)
    → (g ≡ left) × (says r ≡ defined) → (h ≡ left) × (says s ≡ defined) → (g ≡ h) × (r ≡ s)
one_call says back leads g h r s x y = (one_result x.0 y.0, one_answer says back leads r s x.1 y.1)

-- ---- the promise of each public function

pub insert_one : {A : Type 0} (before : A → A → Bool) (used : ℕ) (x : A) (entries new other : List A) → new ≡ put_in before x used entries → other ≡ put_in before x used entries → new ≡ other
insert_one before used x entries new other = one_result

pub open_at_one : {A : Type 0} (at : ℕ) (x : A) (entries new other : List A) → new ≡ take (length entries) (take at entries ++ (x ∷ drop at entries))
    → other ≡ take (length entries) (take at entries ++ (x ∷ drop at entries)) → new ≡ other
open_at_one at x entries new other = one_result

pub close_at_one : {A : Type 0} (at : ℕ) (z : A) (entries new other : List A) → new ≡ take (length entries) (take at entries ++ drop (at + 1) entries ++ (z ∷ []))
    → other ≡ take (length entries) (take at entries ++ drop (at + 1) entries ++ (z ∷ [])) → new ≡ other
close_at_one at z entries new other = one_result
