-- Field by field a reader comes to the numbers that `read` finds, and then to the order's field. Assumes nothing.
use mathlib.Core.Path.{◌≡◌, refl, sym, ap, ap₂, ◌∙◌}
use mathlib.Core.List.{List, [], ◌∷◌, map}
use Prim.Native.Nat.{ℕ, ◌+◌}
use native.Mathlib.Nat.{zero-add, add-zero, add_assoc}
use denote.Ref.{Bor}
use lib.Dec.{eqb}
use Rattle.lists.specs.Tests.{first_of}
use Rattle.fields.specs.Fields.{number_at}
use Rattle.fields.specs.Slots.{slot_checks, slot_fields, numbers_at, span}
use Rattle.fields.specs.declared.Slot.{Slot}
use Rattle.fields.proofs.Checks.{Clear, clear_left}
use Rattle.message.specs.Layout.{slots, numbers, order_place, ending}
use Rattle.message.specs.Calls.{read_of}
use Rattle.message.specs.Reader.{opened, next_number, moved}
use Rattle.message.specs.declared.Found.{Found}
use Rattle.message.specs.declared.reader.Reader.{Reader}
use Rattle.message.proofs.ReadLaws.{read_is}
use Rattle.message.proofs.RoundTrip.{numbers_by}

-- what a reader answers to slots in turn, and the reader after them
unfoldable pub met : Reader → List Slot → List (ℕ × ℕ)
met r [] = []
met r (s ∷ ss) = next_number r.message.now r.at s ∷ met (moved r s) ss

unfoldable pub after : Reader → List Slot → Reader
after r [] = r
after r (s ∷ ss) = after (moved r s) ss

-- a number with no fault
abbrev pub right : ℕ → ℕ × ℕ
right x = (0, x)

module _ (m : Bor (List ℕ)) where
  abbrev pub reader_at : ℕ → Reader
  reader_at at = record { message = m; at = at }

  moved_on : (at : ℕ) (s : Slot) → first_of (slot_checks m.now at s) ≡ 0 → moved (reader_at at) s ≡ reader_at (at + (3 + s.width))
  moved_on at s e = rw e

  met_all : (ss : List Slot) (at : ℕ) → Clear (slot_fields m.now at ss) → met (reader_at at) ss ≡ map right (numbers_at m.now at ss)
  unfolding met
  met_all [] at c = refl
  met_all (s ∷ ss) at c = ap₂ ◌∷◌ (rw c.0) (ap (λ (r : Reader). met r ss) (moved_on at s c.0) ∙ met_all ss (at + (3 + s.width)) c.1)

  after_all : (ss : List Slot) (at : ℕ) → Clear (slot_fields m.now at ss) → after (reader_at at) ss ≡ reader_at (at + span ss)
  unfolding after
  after_all [] at c = ap reader_at (sym (add-zero at))
  after_all (s ∷ ss) at c =
      ap (λ (r : Reader). after r ss) (moved_on at s c.0) ∙ after_all ss (at + (3 + s.width)) c.1
      ∙ ap reader_at (add_assoc at (3 + s.width) (span ss))

  -- THEOREM. Over a message, a reader opened at its start answers the message's numbers, and stands then where the order's field begins.
  pub field_by_field : (rules : ℕ) (f : Found) → read_of rules m.now ≡ (0, f)
      → (met (opened m) (slots rules) ≡ map right (numbers rules f.message)) × (after (opened m) (slots rules) ≡ reader_at (order_place rules))
  field_by_field rules f e =
      let is = read_is rules m.now f e in
      let c = clear_left (slot_fields m.now 0 (slots rules)) (ending m.now (order_place rules)) is.clear in
      let x : ℕ = number_at m.now 3 8 in
      let y : ℕ = number_at m.now 14 1 in (
        met_all (slots rules) 0 c ∙ ap (λ (zs : List ℕ). map right (x ∷ y ∷ zs)) (sym (numbers_by m.now (eqb rules 2) x y))
            ∙ ap (λ (g : Found). map right (numbers rules g.message)) (sym is.found),
        after_all (slots rules) 0 c ∙ ap reader_at (zero-add (order_place rules)),
      )
