-- The order's field and the bytes that it stands in, both ways. Assumes nothing.
use mathlib.Core.Path.{◌≡◌, refl, sym, ap, ap₂, ◌∙◌}
use mathlib.Core.Bool.{Bool, true, false, cond, ◌&&◌}
use mathlib.Core.List.{List, [], ◌++◌, append_assoc, append-nil}
use Prim.Native.Nat.{ℕ, ◌+◌, ◌^◌, ◌<◌, ◌≤◌}
use native.Mathlib.Omega.{arith}
use borrow.Author.Tests.{leb-true}
use lib.Dec.{leb, eqb}
use lib.ListN.{length, get_or, length-append, length-drop}
use lib.Seq.{length-take-le}
use Rattle.lists.specs.Bytes.{be, val_at}
use Rattle.lists.specs.Tests.{first_of}
use Rattle.lists.proofs.Bools.{and_right}
use Rattle.lists.proofs.TestLaws.{none_pass}
use Rattle.lists.proofs.ByteLaws.{Bytes, length_be, val_one, part, part_add, be_val, val_be}
use Rattle.orders.specs.Orders.{kind_of, image_of, share_of, is_kind, share_fits, order_at, order_bytes, size_of, wrong_size, wrong_value}
use Rattle.orders.specs.declared.Order.{Order}
use Rattle.orders.proofs.Laws.{kind_is, right_size, right_value, from_parts, of_bytes, of_fits, of_size, right_kind}
use Rattle.fields.specs.Fields.{field, stated_at}
use Rattle.fields.proofs.Reading.{HeadIs, head_is, past_head}
use Rattle.fields.proofs.Parts.{byte_part, field_part, front, after_head, length_front, stated_there, head_there}
use Rattle.message.specs.Layout.{order_checks}
use Rattle.message.proofs.WriteLaws.{size_small}

-- ---- an order that was read writes back to its field

module _ (bs : List ℕ) (small : Bytes bs) (at : ℕ) (c : first_of (order_checks bs at) ≡ 0) where
  abbrev kind : ℕ
  kind = get_or bs (at + 3) 0

  abbrev image : ℕ
  image = val_at bs (at + 3 + 1) 4

  abbrev share : ℕ
  share = get_or bs (at + 3 + 5) 0

  value_right : wrong_value kind share ≡ false
  value_right =
      let p = none_pass (order_checks bs at) refl c in
      let e : at + 3 + 5 ≡ at + 8 = omega arith in
      rw e p.1.1.1.0

  is_kind_lem : is_kind kind ≡ true
  is_kind_lem = right_kind kind share value_right

  size_is : stated_at bs at ≡ size_of kind
  size_is = of_size kind is_kind_lem (stated_at bs at) (none_pass (order_checks bs at) refl c).1.1.0

  head : HeadIs bs at 4
  head = let p = none_pass (order_checks bs at) refl c in head_is bs at 4 (simp (p.0, p.1.0))

  bytes_by : (b : Bool) → stated_at bs at ≡ cond b 6 5 → be 1 kind ++ (be 4 image ++ cond b (be 1 share) []) ≡ part bs (at + 3) (cond b 6 5)
  bytes_by b s =
      let room : at + 3 + stated_at bs at ≤ length bs = head.room in
      let least : 5 ≤ stated_at bs at = rw s (least_by b) in
      let last : at + 3 + 5 ≡ at + 3 + 1 + 4 = omega arith in
      ap₂ ◌++◌ (byte_part bs small (at + 3) kind (omega arith) refl)
      (ap₂ ◌++◌ (be_val bs small (at + 3 + 1) 4 (omega arith)) (share_by b s ∙ ap (λ (k : ℕ). part bs k (cond b 1 0)) last) ∙ part_add bs (at + 3 + 1) 4 (cond b 1 0))
      ∙ part_add bs (at + 3) 1 (4 + cond b 1 0)
      ∙ ap (part bs (at + 3)) (count_by b)
    where
      least_by : (b : Bool) → 5 ≤ cond b 6 5
      least_by true = omega arith
      least_by false = omega arith

      count_by : (b : Bool) → 1 + (4 + cond b 1 0) ≡ cond b 6 5
      count_by true = refl
      count_by false = refl

      share_by : (b : Bool) → stated_at bs at ≡ cond b 6 5 → cond b (be 1 share) [] ≡ part bs (at + 3 + 5) (cond b 1 0)
      share_by true s = let room : at + 3 + stated_at bs at ≤ length bs = head.room in byte_part bs small (at + 3 + 5) share (omega arith) refl
      share_by false s = refl

  pub order_back : field 4 (order_bytes (order_at bs (at + 3))) ≡ part bs at (3 + stated_at bs at)
  order_back =
      let value : List ℕ = order_bytes (order_at bs (at + 3)) in
      let room : at + 3 + stated_at bs at ≤ length bs = head.room in
      let is : value ≡ part bs (at + 3) (stated_at bs at) =
      of_bytes kind is_kind_lem image share ∙ bytes_by (eqb kind 1) size_is ∙ ap (part bs (at + 3)) (sym size_is) in
      let long : length value ≡ stated_at bs at = ap length is ∙ length-take-le (stated_at bs at) _ (rw (length-drop (at + 3) bs) (omega arith)) in
      field_part bs small at 4 value head (sym long) (is ∙ ap (part bs (at + 3)) (sym long)) ∙ ap (λ (n : ℕ). part bs at (3 + n)) long

  pub order_fits : share_fits (order_at bs (at + 3)) ≡ true
  order_fits = of_fits kind is_kind_lem image share value_right

-- ---- an order that was written is read

module _ (bs pre : List ℕ) (at : ℕ) (o : Order) (e : bs ≡ pre ++ field 4 (order_bytes o)) (l : length pre ≡ at) (small : image_of o < 2 ^ 32) (fits : share_fits o ≡ true) where
  value : List ℕ
  value = order_bytes o

  tail : List ℕ
  tail = cond (eqb (kind_of o) 1) (be 1 (share_of o)) []

  whole : bs ≡ pre ++ (field 4 value ++ [])
  unfolding value
  whole = e ∙ ap (λ (r : List ℕ). pre ++ r) (sym (append-nil (field 4 value)))

  before : List ℕ
  before = front bs pre [] value at 4 whole l

  long : length before ≡ at + 3
  unfolding before
  long = length_front bs pre [] value at 4 whole l

  at_kind : bs ≡ before ++ (be 1 (kind_of o) ++ (be 4 (image_of o) ++ (tail ++ [])))
  unfolding value tail before order_bytes
  at_kind = after_head bs pre [] value at 4 whole l ∙ ap (λ (r : List ℕ). before ++ r) (simp append_assoc)

  at_image : bs ≡ (before ++ be 1 (kind_of o)) ++ (be 4 (image_of o) ++ (tail ++ []))
  at_image = at_kind ∙ sym (append_assoc before (be 1 (kind_of o)) (be 4 (image_of o) ++ (tail ++ [])))

  at_share : bs ≡ ((before ++ be 1 (kind_of o)) ++ be 4 (image_of o)) ++ (tail ++ [])
  at_share = at_image ∙ sym (append_assoc (before ++ be 1 (kind_of o)) (be 4 (image_of o)) (tail ++ []))

  long_kind : length (before ++ be 1 (kind_of o)) ≡ at + 3 + 1
  long_kind = length-append before (be 1 (kind_of o)) ∙ omega (arith, long, length_be 1 (kind_of o))

  long_image : length ((before ++ be 1 (kind_of o)) ++ be 4 (image_of o)) ≡ at + 8
  long_image = length-append (before ++ be 1 (kind_of o)) (be 4 (image_of o)) ∙ omega (arith, long_kind, length_be 4 (image_of o))

  kind_there : get_or bs (at + 3) 0 ≡ kind_of o
  kind_there =
      let k : kind_of o ≤ 4 = leb-true (kind_of o) 4 (and_right (leb 1 (kind_of o)) (leb (kind_of o) 4) (kind_is o)) in
      sym (val_one bs (at + 3)) ∙ val_be 1 (kind_of o) before _ bs (at + 3) (omega arith) at_kind long

  image_there : val_at bs (at + 3 + 1) 4 ≡ image_of o
  image_there = val_be 4 (image_of o) (before ++ be 1 (kind_of o)) _ bs (at + 3 + 1) small at_image long_kind

  share_there : eqb (kind_of o) 1 ≡ true → get_or bs (at + 8) 0 ≡ share_of o
  unfolding tail
  share_there q =
      let s : (leb 1 (share_of o) && leb (share_of o) 100) ≡ true = rw q at fits in
      let h : share_of o ≤ 100 = leb-true (share_of o) 100 (and_right (leb 1 (share_of o)) (leb (share_of o) 100) s) in
      sym (val_one bs (at + 8)) ∙ val_be 1 (share_of o) ((before ++ be 1 (kind_of o)) ++ be 4 (image_of o)) [] bs (at + 8) (omega arith) (rw q at at_share) long_image

  short : length value < 65536
  unfolding value
  short = omega (arith, (size_small o).1)

  pub order_stated : stated_at bs at ≡ length (order_bytes o)
  unfolding value
  order_stated = stated_there bs pre [] value at 4 whole l (omega arith) short

  pub order_there : first_of (order_checks bs at) ≡ 0
  unfolding value
  order_there =
      let sizes : wrong_size (get_or bs (at + 3) 0) (stated_at bs at) ≡ false = rw (kind_there, order_stated) (right_size o) in
      let values : wrong_value (get_or bs (at + 3) 0) (get_or bs (at + 8) 0) ≡ false = rw kind_there (right_value (get_or bs (at + 8) 0) o share_there fits) in
      sym (past_head bs at 4 (sym (head_there bs pre [] value at 4 whole l (omega arith) short)) (wrong_size (get_or bs (at + 3) 0) (stated_at bs at))
      (wrong_value (get_or bs (at + 3) 0) (get_or bs (at + 8) 0)) 0 (simp (sizes, values)))

  pub order_is : order_at bs (at + 3) ≡ o
  order_is =
      let last : at + 3 + 5 ≡ at + 8 = omega arith in
      rw (kind_there, image_there, last) (from_parts (get_or bs (at + 8) 0) o share_there)
