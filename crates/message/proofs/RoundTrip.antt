-- Reading undoes writing, and whatever is read writes back to the same bytes: one byte string for one message. Assumes nothing.
use mathlib.Core.Path.{◌≡◌, refl, sym, ap, ap₂, ◌∙◌}
use mathlib.Core.Bool.{Bool, true, false, cond, ◌&&◌}
use mathlib.Core.List.{List, [], ◌∷◌, ◌++◌}
use Prim.Native.Nat.{ℕ, ◌+◌, ◌^◌, ◌<◌, ◌≤◌}
use native.Mathlib.Nat.{zero-add}
use native.Mathlib.Omega.{arith}
use borrow.Author.Tests.{leb-true, le-leb, le-ltb, eqb-true}
use lib.Dec.{leb, eqb}
use lib.ListN.{length, get_or, length-append}
use lib.Seq.{take_all}
use Rattle.lists.specs.Lists.{flat}
use Rattle.lists.proofs.Bools.{and_left_lem, and_right}
use Rattle.lists.proofs.TestLaws.{all_each, each_all}
use Rattle.lists.proofs.ByteLaws.{Bytes, part, part_add}
use Rattle.clock.specs.Clock.{largest_stamp}
use Rattle.orders.specs.Orders.{image_of, share_fits, order_at, order_bytes}
use Rattle.orders.specs.Rules.{is_rules, hop_fits}
use Rattle.fields.specs.Fields.{field, number_at, stated_at}
use Rattle.fields.specs.Slots.{filled, slot_fields, numbers_at}
use Rattle.fields.proofs.Checks.{Clear, clear_left, clear_both, clear_first}
use Rattle.fields.proofs.Placing.{length_field}
use Rattle.fields.proofs.SlotLaws.{AllGood, Within, slots_back, slots_within, slots_there}
use Rattle.message.specs.Layout.{stamp_slot, source_slot, hop_slot, slots, numbers, layout, order_place, ending, message_fields, message_of, found_at}
use Rattle.message.specs.Calls.{in_range, read_of}
use Rattle.message.specs.declared.Message.{Message}
use Rattle.message.specs.declared.Found.{Found}
use Rattle.message.proofs.WriteLaws.{length_layout}
use Rattle.message.proofs.ReadLaws.{accepted, ReadIs, read_is, EndIs, read_end}
use Rattle.message.proofs.OrderLaws.{order_back, order_fits, order_stated, order_there, order_is}

-- ---- by whether there is a hop's slot

good_by : (b : Bool) → AllGood (stamp_slot ∷ source_slot ∷ cond b (hop_slot ∷ []) [])
good_by b = (record { byte = omega arith; narrow = omega arith; large = omega arith }, (record { byte = omega arith; narrow = omega arith; large = omega arith }, last b))
  where
    last : (b : Bool) → AllGood (cond b (hop_slot ∷ []) [])
    last true = (record { byte = omega arith; narrow = omega arith; large = omega arith }, tt)
    last false = tt

module _ (hop : ℕ) where
  hop_within : (b : Bool) → cond b (leb 1 hop && leb hop 8) (eqb hop 0) ≡ true → Within (cond b (hop_slot ∷ []) []) (cond b (hop ∷ []) [])
  hop_within true e = ((leb-true 1 hop (and_left_lem (leb 1 hop) (leb hop 8) e), leb-true hop 8 (and_right (leb 1 hop) (leb hop 8) e)), tt)
  hop_within false e = tt

  -- a hop that no slot holds is 0
  hop_same : (b : Bool) (x y : ℕ) → cond b (leb 1 hop && leb hop 8) (eqb hop 0) ≡ true → get_or (x ∷ y ∷ cond b (hop ∷ []) []) 2 0 ≡ hop
  hop_same true x y e = refl
  hop_same false x y e = sym (eqb-true hop 0 e)

module _ (bs : List ℕ) where
  pub numbers_by : (b : Bool) (x y : ℕ)
      → let zs : List ℕ = numbers_at bs 15 (cond b (hop_slot ∷ []) []) in cond b (get_or (x ∷ y ∷ zs) 2 0 ∷ []) [] ≡ zs
  numbers_by true x y = refl
  numbers_by false x y = refl

  hop_fits_by : (b : Bool) (x y : ℕ) → Within (cond b (hop_slot ∷ []) []) (numbers_at bs 15 (cond b (hop_slot ∷ []) []))
      → let h : ℕ = get_or (x ∷ y ∷ numbers_at bs 15 (cond b (hop_slot ∷ []) [])) 2 0 in cond b (leb 1 h && leb h 8) (eqb h 0) ≡ true
  hop_fits_by true x y w = simp (le-leb _ _ w.0.0, le-leb _ _ w.0.1)
  hop_fits_by false x y w = refl

-- ---- reading undoes writing

module _ (rules : ℕ) (m : Message) (small : image_of m.order < 2 ^ 32) (ok : in_range rules m ≡ true) where
  abbrev bs : List ℕ
  bs = layout rules m

  abbrev pre : List ℕ
  pre = flat (filled (slots rules) (numbers rules m))

  abbrev at : ℕ
  at = order_place rules

  ranges : (is_rules rules ≡ true) × ((leb m.stamp.0 largest_stamp ≡ true) × ((leb m.source 7 ≡ true) × ((hop_fits rules m.hop ≡ true) × ((share_fits m.order ≡ true) × Unit {0}))))
  unfolding in_range
  ranges = all_each _ ok

  whole : bs ≡ pre ++ field 4 (order_bytes m.order)
  unfolding layout
  whole = refl

  pre_long : length pre ≡ at
  pre_long =
      let e : length bs ≡ length pre + length (field 4 (order_bytes m.order)) = ap length whole ∙ length-append pre (field 4 (order_bytes m.order)) in
      omega (arith, e, length_layout rules m, length_field 4 (order_bytes m.order))

  within : Within (slots rules) (numbers rules m)
  within =
      ((omega arith, leb-true m.stamp.0 largest_stamp ranges.1.0), ((omega arith, leb-true m.source 7 ranges.1.1.0), hop_within m.hop (eqb rules 2) ranges.1.1.1.0))

  slots_read : Clear (slot_fields bs 0 (slots rules)) × (numbers_at bs 0 (slots rules) ≡ numbers rules m)
  slots_read = slots_there bs [] (field 4 (order_bytes m.order)) 0 (slots rules) (numbers rules m) (good_by (eqb rules 2)) within whole refl

  stated : stated_at bs at ≡ length (order_bytes m.order)
  stated = order_stated bs pre at m.order whole pre_long small ranges.1.1.1.1.0

  clear : Clear (message_fields rules bs)
  clear =
      let stop : length bs ≤ at + 3 + stated_at bs at = omega (arith, length_layout rules m, stated) in
      clear_both (slot_fields bs 0 (slots rules)) (ending bs at) slots_read.0
      (order_there bs pre at m.order whole pre_long small ranges.1.1.1.1.0, (simp (le-ltb _ _ stop), tt))

  message_same : message_of (numbers_at bs 0 (slots rules)) (order_at bs (at + 3)) ≡ m
  message_same =
      ap₂ message_of slots_read.1 (order_is bs pre at m.order whole pre_long small ranges.1.1.1.1.0)
      ∙ ap (λ (h : ℕ). record { stamp = m.stamp; source = m.source; hop = h; order = m.order }) (hop_same m.hop (eqb rules 2) m.stamp.0 m.source ranges.1.1.1.0)

  -- THEOREM. The bytes that writing makes of a message in range are read as that message, with the place and the size of its order.
  pub read_back : read_of rules (layout rules m) ≡ (0, record { message = m; start = order_place rules + 3; size = length (order_bytes m.order) })
  read_back =
      sym (accepted rules bs ranges.0 (sym (clear_first (message_fields rules bs) clear)))
      ∙ ap₂ (λ (n : Message) (z : ℕ). (0, record { message = n; start = at + 3; size = z })) message_same stated

-- ---- whatever is read writes back

module _ (rules : ℕ) (bs : List ℕ) (f : Found) (small : Bytes bs) (e : read_of rules bs ≡ (0, f)) where
  found : ReadIs rules bs f
  found = read_is rules bs f e

  ends : EndIs bs (order_place rules)
  ends = read_end rules bs f found

  slots_clear : Clear (slot_fields bs 0 (slots rules))
  slots_clear = clear_left (slot_fields bs 0 (slots rules)) (ending bs (order_place rules)) found.clear

  here : Message
  here = (found_at rules bs).message

  bytes_back : layout rules here ≡ bs
  unfolding layout here
  bytes_back =
      let at : ℕ = order_place rules in
      let order : List ℕ = field 4 (order_bytes (order_at bs (at + 3))) in
      let x : ℕ = number_at bs 3 8 in
      let y : ℕ = number_at bs 14 1 in
      ap (λ (zs : List ℕ). flat (filled (slots rules) (x ∷ y ∷ zs)) ++ order) (numbers_by bs (eqb rules 2) x y)
      ∙ ap₂ ◌++◌ (slots_back bs small (slots rules) 0 (good_by (eqb rules 2)) slots_clear) (order_back bs small at ends.order)
      ∙ ap (λ (k : ℕ). part bs 0 at ++ part bs k (3 + stated_at bs at)) (sym (zero-add at))
      ∙ part_add bs 0 at (3 + stated_at bs at)
      ∙ take_all (at + (3 + stated_at bs at)) bs (omega (arith, ends.whole))

  range_back : in_range rules here ≡ true
  unfolding in_range here
  range_back =
      let w = slots_within bs (slots rules) 0 slots_clear in
      each_all _ (
        found.rules_are,
        (
          le-leb _ _ w.0.1,
          (
            le-leb _ _ w.1.0.1,
            (hop_fits_by bs (eqb rules 2) (number_at bs 3 8) (number_at bs 14 1) w.1.1, (order_fits bs small (order_place rules) ends.order, tt)),
          ),
        ),
      )

  -- THEOREM. Whatever is read writes back to the same bytes, and is in range.
  pub written_back : (layout rules f.message ≡ bs) × (in_range rules f.message ≡ true)
  unfolding here
  written_back = rw found.found (bytes_back, range_back)

-- so no two byte strings are read as one message
pub one_string : (rules : ℕ) (bs cs : List ℕ) (f g : Found) → Bytes bs → Bytes cs → read_of rules bs ≡ (0, f) → read_of rules cs ≡ (0, g) → f.message ≡ g.message → bs ≡ cs
one_string rules bs cs f g b c p q e =
    sym (written_back rules bs f b p).0 ∙ ap (layout rules) e ∙ (written_back rules cs g c q).0
