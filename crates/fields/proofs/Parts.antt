-- A field and the bytes that it stands in, both ways. Assumes nothing.
use mathlib.Core.Path.{◌≡◌, sym, ap, ◌∙◌}
use mathlib.Core.List.{List, ◌++◌, append_assoc}
use Prim.Native.Nat.{ℕ, ◌+◌, ◌≤◌, ◌<◌}
use native.Mathlib.Omega.{arith}
use borrow.Author.Tests.{le-ltb, eq-eqb}
use lib.ListN.{length, get_or, length-append}
use Rattle.lists.specs.Bytes.{be}
use Rattle.lists.specs.Tests.{first_of}
use Rattle.lists.proofs.ByteLaws.{Bytes, length_be, val_one, part, part_add, be_val, val_be}
use Rattle.fields.specs.Fields.{field, stated_at, head_checks}
use Rattle.fields.proofs.Reading.{HeadIs}

-- ---- a field that was read is that part of the bytes

module _ (bs : List ℕ) (small : Bytes bs) where
  pub byte_part : (at x : ℕ) → at + 1 ≤ length bs → get_or bs at 0 ≡ x → be 1 x ≡ part bs at 1
  byte_part at x h e = ap (be 1) (sym e ∙ sym (val_one bs at)) ∙ be_val bs small at 1 h

  pub field_part : (at tag : ℕ) (value : List ℕ) → HeadIs bs at tag → stated_at bs at ≡ length value → value ≡ part bs (at + 3) (length value)
      → field tag value ≡ part bs at (3 + length value)
  unfolding field
  field_part at tag value h n e =
      let room : at + 3 + stated_at bs at ≤ length bs = h.room in
      let next : at + 3 ≡ (at + 1) + 2 = omega arith in
      let all : 1 + (2 + length value) ≡ 3 + length value = omega arith in
      ap (λ (r : List ℕ). r ++ (be 2 (length value) ++ value)) (byte_part at tag (omega arith) h.tagged)
      ∙ ap (λ (k : ℕ). part bs at 1 ++ (be 2 k ++ value)) (sym n)
      ∙ ap (λ (r : List ℕ). part bs at 1 ++ (r ++ value)) (be_val bs small (at + 1) 2 (omega arith))
      ∙ ap (λ (r : List ℕ). part bs at 1 ++ (part bs (at + 1) 2 ++ r)) e
      ∙ ap (λ (k : ℕ). part bs at 1 ++ (part bs (at + 1) 2 ++ part bs k (length value))) next
      ∙ ap (λ (r : List ℕ). part bs at 1 ++ r) (part_add bs (at + 1) 2 (length value))
      ∙ part_add bs at 1 (2 + length value)
      ∙ ap (part bs at) all

-- ---- a field that stands in bytes, after pre and before post, is read

module _ (bs pre post value : List ℕ) (at tag : ℕ) (e : bs ≡ pre ++ (field tag value ++ post)) (l : length pre ≡ at) where
  spread : bs ≡ pre ++ (be 1 tag ++ (be 2 (length value) ++ (value ++ post)))
  unfolding field
  spread = e ∙ ap (λ (r : List ℕ). pre ++ r) (simp append_assoc)

  after_tag : bs ≡ (pre ++ be 1 tag) ++ (be 2 (length value) ++ (value ++ post))
  after_tag = spread ∙ sym (append_assoc pre (be 1 tag) (be 2 (length value) ++ (value ++ post)))

  -- what stands before the value
  abbrev pub front : List ℕ
  front = (pre ++ be 1 tag) ++ be 2 (length value)

  pub after_head : bs ≡ front ++ (value ++ post)
  after_head = after_tag ∙ sym (append_assoc (pre ++ be 1 tag) (be 2 (length value)) (value ++ post))

  length_tag : length (pre ++ be 1 tag) ≡ at + 1
  length_tag = length-append pre (be 1 tag) ∙ omega (arith, l, length_be 1 tag)

  pub length_front : length front ≡ at + 3
  length_front = length-append (pre ++ be 1 tag) (be 2 (length value)) ∙ omega (arith, length_tag, length_be 2 (length value))

  length_whole : length bs ≡ at + 3 + (length value + length post)
  length_whole = ap length after_head ∙ length-append front (value ++ post) ∙ omega (arith, length_front, length-append value post)

  module _ (byte : tag < 256) (short : length value < 65536) where
    pub stated_there : stated_at bs at ≡ length value
    stated_there = val_be 2 (length value) (pre ++ be 1 tag) (value ++ post) bs (at + 1) short after_tag length_tag

    pub head_there : first_of (head_checks bs at tag) ≡ 0
    head_there =
        let t : get_or bs at 0 ≡ tag = sym (val_one bs at) ∙ val_be 1 tag pre (be 2 (length value) ++ (value ++ post)) bs at byte spread l in
        let h : at + 3 + stated_at bs at ≤ length bs = omega (arith, length_whole, stated_there) in
        simp (le-ltb _ _ h, eq-eqb _ _ t)
