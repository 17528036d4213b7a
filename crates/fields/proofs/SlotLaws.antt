-- A run of slots: what is read from the front writes back to the same bytes, and what was written is read. Assumes nothing.
use mathlib.Core.Path.{◌≡◌, refl, sym, ap, ap₂, ◌∙◌}
use mathlib.Core.Bool.{true, ◌&&◌}
use mathlib.Core.List.{List, [], ◌∷◌, ◌++◌, append_assoc}
use Prim.Native.Nat.{ℕ, ◌+◌, ◌^◌, ◌≤◌, ◌<◌, suc-le-suc}
use native.Mathlib.Nat.{le_trans, min-eq_right}
use native.Mathlib.Omega.{arith}
use borrow.Author.Tests.{leb-true, le-leb, eqb-true, eq-eqb, not-false}
use lib.Dec.{leb}
use lib.ListN.{length, length-append}
use Rattle.lists.specs.Bytes.{be, val_at}
use Rattle.lists.specs.Lists.{flat}
use Rattle.lists.specs.Tests.{first_of}
use Rattle.lists.proofs.Bools.{and_left_lem, and_right}
use Rattle.lists.proofs.TestLaws.{none_pass}
use Rattle.lists.proofs.ByteLaws.{Bytes, length_be, part, part_add, be_val, val_be}
use Rattle.fields.specs.Fields.{field, number_at, stated_at, value_checks}
use Rattle.fields.specs.Slots.{wrong_length, wrong_number, slot_checks, span, filled, slot_fields, numbers_at}
use Rattle.fields.specs.declared.Slot.{Slot}
use Rattle.fields.proofs.Checks.{Clear}
use Rattle.fields.proofs.Placing.{length_field}
use Rattle.fields.proofs.Reading.{HeadIs, head_is, past_head}
use Rattle.fields.proofs.Parts.{field_part, after_head, length_front, front, stated_there, head_there}

-- a slot whose tag is a byte, and whose numbers fit its bytes, 8 at most
pub record Good (s : Slot) : Type 0 where
  pub byte : s.tag < 256
  pub narrow : s.width ≤ 8
  pub large : s.largest < 256 ^ s.width

abbrev pub AllGood : List Slot → Type 0
AllGood [] = Unit {0}
AllGood (s ∷ ss) = Good s × AllGood ss

-- a number for each slot, in its range
abbrev pub Within : List Slot → List ℕ → Type 0
Within [] [] = Unit {0}
Within [] (x ∷ xs) = ⊥
Within (s ∷ ss) [] = ⊥
Within (s ∷ ss) (x ∷ xs) = ((s.least ≤ x) × (x ≤ s.largest)) × Within ss xs

-- ---- one slot

-- a slot's field with nothing wrong
pub record SlotIs (bs : List ℕ) (at : ℕ) (s : Slot) : Type 0 where
  head : HeadIs bs at s.tag
  long : stated_at bs at ≡ s.width
  pub room : at + 3 + s.width ≤ length bs
  least : s.least ≤ number_at bs (at + 3) s.width
  largest : number_at bs (at + 3) s.width ≤ s.largest

pub slot_is : (bs : List ℕ) (at : ℕ) (s : Slot) → first_of (slot_checks bs at s) ≡ 0 → SlotIs bs at s
slot_is bs at s e =
    let p = none_pass (slot_checks bs at s) refl e in
    let x : ℕ = number_at bs (at + 3) s.width in
    let both : (leb s.least x && leb x s.largest) ≡ true = not-false _ p.1.1.1.0 in
    let head = head_is bs at s.tag (simp (p.0, p.1.0)) in
    let long : stated_at bs at ≡ s.width = eqb-true (stated_at bs at) s.width (not-false _ p.1.1.0) in
    record {
      head = head;
      long = long;
      room = rw long at head.room;
      least = leb-true s.least x (and_left_lem (leb s.least x) (leb x s.largest) both);
      largest = leb-true x s.largest (and_right (leb s.least x) (leb x s.largest) both);
    }

module _ (bs : List ℕ) (small : Bytes bs) where
  slot_back : (at : ℕ) (s : Slot) → Good s → SlotIs bs at s → field s.tag (be s.width (number_at bs (at + 3) s.width)) ≡ part bs at (3 + s.width)
  slot_back at s g i =
      let w : ℕ = s.width in
      let value : List ℕ = be w (number_at bs (at + 3) w) in
      let long : length value ≡ w = length_be w (number_at bs (at + 3) w) in
      let stands : value ≡ part bs (at + 3) (length value) =
      ap (λ (k : ℕ). be w (val_at bs (at + 3) k)) (min-eq_right g.narrow) ∙ be_val bs small (at + 3) w i.room ∙ ap (part bs (at + 3)) (sym long) in
      field_part bs small at s.tag value i.head (i.long ∙ sym long) stands ∙ ap (λ (k : ℕ). part bs at (3 + k)) long

  -- ---- what is read writes back

  pub slots_back : (ss : List Slot) (at : ℕ) → AllGood ss → Clear (slot_fields bs at ss) → flat (filled ss (numbers_at bs at ss)) ≡ part bs at (span ss)
  slots_back [] at g c = refl
  slots_back (s ∷ ss) at g c =
      ap₂ ◌++◌ (slot_back at s g.0 (slot_is bs at s c.0)) (slots_back ss (at + (3 + s.width)) g.1 c.1)
      ∙ part_add bs at (3 + s.width) (span ss)

pub slots_within : (bs : List ℕ) (ss : List Slot) (at : ℕ) → Clear (slot_fields bs at ss) → Within ss (numbers_at bs at ss)
slots_within bs [] at c = tt
slots_within bs (s ∷ ss) at c =
    let i = slot_is bs at s c.0 in
    ((i.least, i.largest), slots_within bs ss (at + (3 + s.width)) c.1)

-- ---- what was written is read

module _ (bs pre post : List ℕ) (at : ℕ) (s : Slot) (x : ℕ) (g : Good s) (e : bs ≡ pre ++ (field s.tag (be s.width x) ++ post)) (l : length pre ≡ at) (low : s.least ≤ x) (high : x ≤ s.largest) where
  value : List ℕ
  value = be s.width x

  number_there : number_at bs (at + 3) s.width ≡ x
  unfolding value
  number_there =
      let fits : x < 256 ^ s.width = le_trans (suc-le-suc high) g.large in
      ap (val_at bs (at + 3)) (min-eq_right g.narrow)
      ∙ val_be s.width x (front bs pre post value at s.tag e l) post bs (at + 3) fits (after_head bs pre post value at s.tag e l) (length_front bs pre post value at s.tag e l)

  slot_there : first_of (slot_checks bs at s) ≡ 0
  unfolding value
  slot_there =
      let short : length value < 65536 = omega (arith, length_be s.width x, g.narrow) in
      let stated : stated_at bs at ≡ s.width = stated_there bs pre post value at s.tag e l g.byte short ∙ length_be s.width x in
      let none : 0 ≡ first_of (value_checks (wrong_length bs at s) (wrong_number bs at s)) =
      simp (eq-eqb _ _ stated, number_there, le-leb _ _ low, le-leb _ _ high) in
      sym (past_head bs at s.tag (sym (head_there bs pre post value at s.tag e l g.byte short)) (wrong_length bs at s) (wrong_number bs at s) 0 none)

pub slots_there : (bs pre post : List ℕ) (at : ℕ) (ss : List Slot) (xs : List ℕ) → AllGood ss → Within ss xs → bs ≡ pre ++ (flat (filled ss xs) ++ post) → length pre ≡ at
    → Clear (slot_fields bs at ss) × (numbers_at bs at ss ≡ xs)
slots_there bs pre post at [] [] g w e l = (tt, refl)
slots_there bs pre post at [] (x ∷ xs) g w e l = absurd w
slots_there bs pre post at (s ∷ ss) [] g w e l = absurd w
slots_there bs pre post at (s ∷ ss) (x ∷ xs) g w e l =
    let f : List ℕ = field s.tag (be s.width x) in
    let r : List ℕ = flat (filled ss xs) in
    let here : bs ≡ pre ++ (f ++ (r ++ post)) = e ∙ ap (λ (t : List ℕ). pre ++ t) (append_assoc f r post) in
    let long : length (pre ++ f) ≡ at + (3 + s.width) =
    length-append pre f ∙ omega (arith, l, length_field s.tag (be s.width x), length_be s.width x) in
    let rest = slots_there bs (pre ++ f) post (at + (3 + s.width)) ss xs g.1 w.1 (here ∙ sym (append_assoc pre f (r ++ post))) long in (
      (slot_there bs pre (r ++ post) at s x g.0 here l w.0.0 w.0.1, rest.0),
      ap₂ ◌∷◌ (number_there bs pre (r ++ post) at s x g.0 here l w.0.0 w.0.1) rest.1,
    )
