-- How long a message is, its fields one after the other, and what writing answers and leaves. Assumes nothing.
use mathlib.Core.Path.{◌≡◌, refl, sym, ap, ◌∙◌}
use mathlib.Core.Bool.{Bool, true, false, cond, ◌&&◌, and_assoc, and-true}
use mathlib.Core.List.{List, [], ◌∷◌, ◌++◌}
use Prim.Native.Nat.{ℕ, ◌+◌, ◌<◌, ◌≤◌}
use native.Mathlib.Omega.{arith}
use borrow.Author.Tests.{lt-ltb, le-ltb, ne_eqb}
use lib.Dec.{eqb}
use lib.ListN.{length, length-append}
use Rattle.lists.specs.Bytes.{be}
use Rattle.lists.specs.Lists.{flat}
use Rattle.lists.specs.Tests.{all_of}
use Rattle.orders.specs.Orders.{order_bytes, kind_of, image_of, share_of}
use Rattle.orders.specs.declared.Order.{Order}
use Rattle.orders.specs.declared.Order.TheVariants.{Publish, Halt, Resume, Withdraw}
use Rattle.orders.proofs.Laws.{size_bytes}
use Rattle.fields.specs.Fields.{field, placed}
use Rattle.fields.specs.Slots.{span, filled}
use Rattle.fields.proofs.Placing.{placed_front, placed_then, length_field}
use Rattle.message.specs.Layout.{stamp_slot, source_slot, hop_slot, layout, order_place}
use Rattle.message.specs.Calls.{in_range, written, written_to}
use Rattle.message.specs.Inside.{order_start}
use Rattle.message.specs.declared.Message.{Message}

-- ---- by whether there is a hop's field

abbrev hop_field : Bool → ℕ → List ℕ
hop_field b hop = cond b (field 3 (be 1 hop)) []

place_by : (b : Bool) → span (stamp_slot ∷ source_slot ∷ cond b (hop_slot ∷ []) []) ≡ cond b 19 15
place_by true = refl
place_by false = refl

pub place_is : (rules : ℕ) → order_place rules ≡ cond (eqb rules 2) 19 15
place_is rules = place_by (eqb rules 2)

place_bound : (b : Bool) → cond b 19 15 ≤ 19
place_bound true = omega arith
place_bound false = omega arith

pub place_small : (rules : ℕ) → order_place rules ≤ 19
place_small rules = omega (arith, place_is rules, place_bound (eqb rules 2))

pub size_small : (o : Order) → (5 ≤ length (order_bytes o)) × (length (order_bytes o) ≤ 6)
size_small o = go (eqb (kind_of o) 1) (size_bytes o)
  where
    go : (b : Bool) → length (order_bytes o) ≡ cond b 6 5 → (5 ≤ length (order_bytes o)) × (length (order_bytes o) ≤ 6)
    go true e = omega arith
    go false e = omega arith

pub length_hop : (b : Bool) (hop : ℕ) → 15 + length (hop_field b hop) ≡ cond b 19 15
unfolding be field
length_hop true hop = refl
length_hop false hop = refl

fields_by : (b : Bool) (t s hop : ℕ) (rest : List ℕ)
    → ((field 1 (be 8 t) ++ field 2 (be 1 s)) ++ hop_field b hop) ++ rest
    ≡ flat (filled (stamp_slot ∷ source_slot ∷ cond b (hop_slot ∷ []) []) (t ∷ s ∷ cond b (hop ∷ []) [])) ++ rest
unfolding be field
fields_by true t s hop rest = refl
fields_by false t s hop rest = refl

module _ (rules : ℕ) (m : Message) where
  pub fields_are : ((field 1 (be 8 m.stamp.0) ++ field 2 (be 1 m.source)) ++ hop_field (eqb rules 2) m.hop) ++ field 4 (order_bytes m.order) ≡ layout rules m
  unfolding layout
  fields_are = fields_by (eqb rules 2) m.stamp.0 m.source m.hop (field 4 (order_bytes m.order))

  pub length_layout : length (layout rules m) ≡ order_place rules + 3 + length (order_bytes m.order)
  unfolding be field
  length_layout =
      let front : List ℕ = field 1 (be 8 m.stamp.0) ++ field 2 (be 1 m.source) in
      ap length (sym fields_are)
      ∙ length-append (front ++ hop_field (eqb rules 2) m.hop) (field 4 (order_bytes m.order))
      ∙ ap (λ (n : ℕ). n + length (field 4 (order_bytes m.order))) (length-append front (hop_field (eqb rules 2) m.hop))
      ∙ omega (arith, length_hop (eqb rules 2) m.hop, place_is rules, length_field 4 (order_bytes m.order))

  -- ---- what writing answers and leaves

  module _ (out : List ℕ) where
    pub refused_23 : in_range rules m ≡ false → ((23, 0) ≡ written rules m (length out)) × (out ≡ written_to rules m out)
    refused_23 e = simp e (refl, refl)

    module _ (e : in_range rules m ≡ true) where
      pub refused_22 : length out < length (layout rules m) → ((22, 0) ≡ written rules m (length out)) × (out ≡ written_to rules m out)
      refused_22 h = simp (e, lt-ltb (length out) (length (layout rules m)) h) (refl, refl)

      pub accepted : (n : ℕ) (out' : List ℕ) → n ≡ length (layout rules m) → n ≤ length out → out' ≡ placed out 0 (layout rules m)
          → ((0, n) ≡ written rules m (length out)) × (out' ≡ written_to rules m out)
      accepted n out' l h w =
          let room : length (layout rules m) ≤ length out = omega arith in
          simp (e, le-ltb (length out) (length (layout rules m)) room) (ap (λ (k : ℕ). (0, k)) l, w ∙ placed_front out (layout rules m) room)

-- ---- the order's field: what every one begins with, in four runs of bytes, and a publish's share

pub start_put : (o : Order) (l l1 l2 l3 l4 : List ℕ) (at size kind image : ℕ) → at + 8 ≤ length l
    → size ≡ length (order_bytes o) → kind ≡ kind_of o → image ≡ image_of o
    → l1 ≡ placed l at (be 1 4) → l2 ≡ placed l1 (at + 1) (be 2 size) → l3 ≡ placed l2 (at + 3) (be 1 kind) → l4 ≡ placed l3 (at + 4) (be 4 image)
    → l4 ≡ placed l at (order_start o)
unfolding be
start_put o l l1 l2 l3 l4 at size kind image h s k i p1 p2 p3 p4 =
    let two = placed_then l l1 l2 at (at + 1) _ _ p1 p2 refl (omega arith) in
    let three = placed_then l l2 l3 at (at + 3) _ _ two p3 refl (omega arith) in
    placed_then l l3 l4 at (at + 4) _ _ three p4 refl (omega arith) ∙ rw (s, k, i) refl

other_kind : (o : Order) → ((image share : ℕ) → o ≡ Publish image share → ⊥) → kind_of o ≡ 1 → ⊥
other_kind (Publish image share) n e = n image share refl
other_kind (Halt image) n e = omega arith
other_kind (Resume image) n e = omega arith
other_kind (Withdraw image) n e = omega arith

module _ (o : Order) (l l4 : List ℕ) (at : ℕ) (room : at + length (field 4 (order_bytes o)) ≤ length l) (p : l4 ≡ placed l at (order_start o)) where
  pub no_share : ((image share : ℕ) → o ≡ Publish image share → ⊥) → l4 ≡ placed l at (field 4 (order_bytes o))
  unfolding be field order_bytes
  no_share n = p ∙ simp (ne_eqb (kind_of o) 1 (other_kind o n))

  pub with_share : (image share : ℕ) (l5 : List ℕ) → o ≡ Publish image share → l5 ≡ placed l4 (at + 8) (be 1 share) → l5 ≡ placed l at (field 4 (order_bytes o))
  unfolding be field order_bytes
  with_share image share l5 e p5 =
      let one : eqb (kind_of o) 1 ≡ true = ap (λ (x : Order). eqb (kind_of x) 1) e in
      let h : at + 9 ≤ length l = omega (arith, rw one at room) in
      placed_then l l4 l5 at (at + 8) (order_start o) _ p p5 refl (omega arith) ∙ rw (← ap share_of e) (simp one)

-- ---- the message, in four fields

module _ (rules : ℕ) (m : Message) (l l1 l2 l3 l4 : List ℕ) (at : ℕ) (room : length (layout rules m) ≤ length l) (e : at ≡ order_place rules)
    (p1 : l1 ≡ placed l 0 (field 1 (be 8 m.stamp.0))) (p2 : l2 ≡ placed l1 11 (field 2 (be 1 m.source)))
    (p3 : l3 ≡ placed l2 15 (hop_field (eqb rules 2) m.hop)) (p4 : l4 ≡ placed l3 at (field 4 (order_bytes m.order))) where
  pub message_put : l4 ≡ placed l 0 (layout rules m)
  unfolding be field
  message_put =
      let front : List ℕ = field 1 (be 8 m.stamp.0) ++ field 2 (be 1 m.source) in
      let hop : List ℕ = hop_field (eqb rules 2) m.hop in
      let order : List ℕ = field 4 (order_bytes m.order) in
      let before : length (front ++ hop) ≡ order_place rules =
      length-append front hop ∙ omega (arith, length_hop (eqb rules 2) m.hop, place_is rules) in
      let h : order_place rules + length order ≤ length l = omega (arith, length_layout rules m, length_field 4 (order_bytes m.order)) in
      let two = placed_then l l1 l2 0 11 _ _ p1 p2 refl (omega (arith, length-append front hop)) in
      let three = placed_then l l2 l3 0 15 front hop two p3 refl (omega (arith, length-append front hop)) in
      placed_then l l3 l4 0 at (front ++ hop) order three p4 (omega arith) (omega arith) ∙ ap (placed l 0) (fields_are rules m)

-- the tests of the code, in the order of the definition
pub in_order : (rules stamp source hop share : Bool) → (rules && (stamp && source && hop) && share) ≡ all_of (rules ∷ stamp ∷ source ∷ hop ∷ share ∷ [])
unfolding all_of
in_order rules stamp source hop share = simp (and_assoc, and-true)
