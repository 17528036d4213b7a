-- From the verdict on each field to the first fault, and from there to what reading answers. Assumes nothing.
use mathlib.Core.Path.{◌≡◌, refl, sym, ap, ◌∙◌}
use mathlib.Core.Bool.{Bool, true, false, not, cond}
use mathlib.Core.List.{List, [], ◌∷◌, ◌++◌}
use Prim.Native.Nat.{ℕ, ◌+◌, ◌-◌, ◌≤◌, ◌<◌}
use native.Mathlib.Nat.{le_antisymm, zero-add, add-sub_cancel_left}
use native.Mathlib.Omega.{arith}
use borrow.Author.Tests.{eq-eqb, ne_eqb, eqb-true, lt-ltb, le-ltb, ltb-false, not-false}
use lib.Dec.{eqb, ltb}
use lib.ListN.{length, get_or, take, drop}
use Rattle.std.specs.Prelude.{Result, Ok, Err}
use Rattle.std.specs.Result.{MatchResult, IsErrAnd}
use Rattle.lists.specs.Tests.{first_of}
use Rattle.lists.specs.Bytes.{val_at}
use Rattle.lists.proofs.ByteLaws.{val_one}
use Rattle.lists.proofs.TestLaws.{none_pass}
use Rattle.orders.specs.Orders.{order_of}
use Rattle.orders.specs.Rules.{is_rules}
use Rattle.orders.specs.declared.Order.{Order}
use Rattle.fields.specs.Faults.{fault, verdict, first}
use Rattle.fields.specs.Fields.{number_at, stated_at}
use Rattle.fields.specs.Slots.{slot_checks, slot_fields, numbers_at}
use Rattle.fields.specs.declared.Fault.{Fault}
use Rattle.fields.proofs.Checks.{found_before, none_before, Clear, first_clear, clear_right, fault_some}
use Rattle.message.specs.Layout.{stamp_slot, source_slot, hop_slot, slots, order_place, order_checks, ending, message_fields, found_at}
use Rattle.message.specs.Calls.{nothing, read_refusal, read_of, part_of, place_of}
use Rattle.message.specs.Inside.{judged, hop_fields}
use Rattle.message.specs.declared.Found.{Found}
use Rattle.message.specs.declared.reading.Misplaced.{Misplaced}

-- ---- from the verdict on each field to the first fault

-- what `?` hands on, with more fields after those that were judged
pub handed_on : (fs gs : List (ℕ × List (ℕ × Bool))) (m : Misplaced) (r : Result (Unit {0}) Misplaced) → judged (Err m) ≡ first fs → IsErrAnd r (λ n. n ≡ m) → judged r ≡ first (fs ++ gs)
handed_on fs gs m (Ok _) e h = absurd h
handed_on fs gs m (Err n) e h = rw h (found_before fs gs m.fault m.place e)

-- a verdict on one field, with its place
pub field_judged : (at : ℕ) (cs : List (ℕ × Bool)) (v : Result (Unit {0}) Fault) (r : Result (Unit {0}) Misplaced) → verdict v ≡ first_of cs
    → MatchResult v (λ _. r ≡ Ok tt) (λ f. IsErrAnd r (λ m. m ≡ record { fault = f; place = at })) → judged r ≡ first ((at, cs) ∷ [])
unfolding first
field_judged at cs (Ok _) r e m = rw (← e, m) refl
field_judged at cs (Err f) (Ok _) e m = absurd m
field_judged at cs (Err f) (Err n) e m = rw (← e, m, ne_eqb (fault f) 0 (fault_some f)) refl

-- past a stamp, a source and a hop with no fault
module _ (rules : ℕ) (bs : List ℕ) (stamp : (0, 0) ≡ first ((0, slot_checks bs 0 stamp_slot) ∷ [])) where
  abbrev from_hop : List (ℕ × List (ℕ × Bool))
  from_hop = hop_fields rules bs ++ ending bs (order_place rules)

  pub past_stamp : first ((11, slot_checks bs 11 source_slot) ∷ from_hop) ≡ first (message_fields rules bs)
  past_stamp = none_before ((0, slot_checks bs 0 stamp_slot) ∷ []) ((11, slot_checks bs 11 source_slot) ∷ from_hop) stamp

  module _ (source : (0, 0) ≡ first ((11, slot_checks bs 11 source_slot) ∷ [])) where
    pub past_source : first from_hop ≡ first (message_fields rules bs)
    past_source = none_before ((11, slot_checks bs 11 source_slot) ∷ []) from_hop source ∙ past_stamp

    pub past_hop : (0, 0) ≡ first (hop_fields rules bs) → first (ending bs (order_place rules)) ≡ first (message_fields rules bs)
    past_hop hop = none_before (hop_fields rules bs) (ending bs (order_place rules)) hop ∙ past_source

-- the last field, and what follows it
module _ (bs : List ℕ) (at : ℕ) where
  abbrev stop : ℕ
  stop = at + 3 + stated_at bs at

  abbrev no_more : List (ℕ × Bool)
  no_more = (37, ltb stop (length bs)) ∷ []

  pub order_room : first_of (order_checks bs at) ≡ 0 → at + 3 + stated_at bs at ≤ length bs
  order_room order = ltb-false (length bs) stop (none_pass (order_checks bs at) refl order).0

  module _ (n : ℕ) (e : n ≡ stop) (order : (0, 0) ≡ first ((at, order_checks bs at) ∷ [])) where
    past_order : first ((stop, no_more) ∷ []) ≡ first (ending bs at)
    past_order = none_before ((at, order_checks bs at) ∷ []) ((stop, no_more) ∷ []) order

    pub left_over : n < length bs → (37, n) ≡ first (ending bs at)
    unfolding first
    left_over h = rw (← past_order) (simp (e, lt-ltb stop (length bs) (omega arith)))

    pub none_left : length bs ≤ n → (0, 0) ≡ first (ending bs at)
    unfolding first
    none_left h = rw (← past_order) (simp (le-ltb stop (length bs) (omega arith)))

-- ---- what reading answers

module _ (rules : ℕ) (bs : List ℕ) where
  pub refused_23 : is_rules rules ≡ false → (23, nothing) ≡ read_of rules bs
  refused_23 e = simp e

  module _ (r : is_rules rules ≡ true) where
    pub refused_30 : (f : Fault) (place : ℕ) → (fault f, place) ≡ first (message_fields rules bs) → (30, nothing) ≡ read_of rules bs
    refused_30 f place e = simp (r, ← e, ne_eqb (fault f) 0 (fault_some f))

    pub accepted : (0, 0) ≡ first (message_fields rules bs) → (0, found_at rules bs) ≡ read_of rules bs
    accepted e = simp (r, ← e)

-- what was read stands in bytes with no fault
pub record ReadIs (rules : ℕ) (bs : List ℕ) (f : Found) : Type 0 where
  pub rules_are : is_rules rules ≡ true
  pub clear : Clear (message_fields rules bs)
  pub found : f ≡ found_at rules bs

pub read_is : (rules : ℕ) (bs : List ℕ) (f : Found) → read_of rules bs ≡ (0, f) → ReadIs rules bs f
read_is rules bs f e =
    let zero : read_refusal rules bs ≡ 0 = ap (λ (a : ℕ × Found). a.0) e in
    let p = none_pass ((23, not (is_rules rules)) ∷ (30, not (eqb (first (message_fields rules bs)).0 0)) ∷ []) refl zero in
    record {
      rules_are = not-false (is_rules rules) p.0;
      clear = first_clear (message_fields rules bs) (eqb-true (first (message_fields rules bs)).0 0 (not-false _ p.1.0));
      found = sym (ap (λ (a : ℕ × Found). a.1) e) ∙ ap (λ (b : Bool). cond b (found_at rules bs) nothing) (eq-eqb (read_refusal rules bs) 0 zero);
    }

-- ---- the message ends with its order

pub record EndIs (bs : List ℕ) (at : ℕ) : Type 0 where
  pub order : first_of (order_checks bs at) ≡ 0
  pub whole : at + 3 + stated_at bs at ≡ length bs

pub read_end : (rules : ℕ) (bs : List ℕ) (f : Found) → ReadIs rules bs f → EndIs bs (order_place rules)
read_end rules bs f r =
    let at : ℕ = order_place rules in
    let c = clear_right (slot_fields bs 0 (slots rules)) (ending bs at) r.clear in
    let q = none_pass (no_more bs at) refl c.1.0 in
    record {
      order = c.0;
      whole = le_antisymm (order_room bs at c.0) (ltb-false (stop bs at) (length bs) q.0);
    }

pub read_room : (rules : ℕ) (bs : List ℕ) (f : Found) → (0, f) ≡ read_of rules bs → f.start + f.size ≡ length bs
read_room rules bs f e =
    let r = read_is rules bs f (sym e) in
    ap (λ (g : Found). g.start + g.size) r.found ∙ (read_end rules bs f r).whole

-- ---- the order's part, of what was read and of nothing

module _ (p : ℕ × ℕ) (rules : ℕ) (bs : List ℕ) where
  unfoldable lies : ℕ × Found → ℕ × ℕ
  lies a = (p.0, a.1.start + p.1)

  unfoldable bytes : ℕ × Found → List ℕ
  bytes a = take a.1.size (drop a.1.start bs)

  pub part_is : (f : Found) → (0, f) ≡ read_of rules bs
      → ((p.0, f.start + p.1) ≡ place_of rules bs p) × (take (f.start + f.size - f.start) (drop f.start bs) ≡ part_of rules bs)
  unfolding lies bytes
  part_is f e =
      (ap lies e, ap (λ (n : ℕ). take n (drop f.start bs)) (add-sub_cancel_left f.start f.size) ∙ ap bytes e)

  pub no_part : (n : ℕ) → (n, nothing) ≡ read_of rules bs → (p ≡ place_of rules bs p) × ([] ≡ part_of rules bs)
  unfolding lies bytes
  no_part n e = (ap (λ (k : ℕ). (p.0, k)) (sym (zero-add p.1)) ∙ ap lies e, ap bytes e)

-- ---- what stands in the slots, taken from its places

hop_by : (b : Bool) (bs : List ℕ) (x y : ℕ) → cond b (get_or bs 18 0) 0 ≡ get_or (x ∷ y ∷ numbers_at bs 15 (cond b (hop_slot ∷ []) [])) 2 0
hop_by true bs x y = sym (val_one bs 18)
hop_by false bs x y = refl

module _ (rules : ℕ) (bs : List ℕ) (at stamp source hop kind image share size : ℕ) (o : Order) where
  pub found_is : at ≡ order_place rules → stamp ≡ number_at bs 3 8 → source ≡ get_or bs 14 0 → hop ≡ cond (eqb rules 2) (get_or bs 18 0) 0
      → kind ≡ get_or bs (at + 3) 0 → image ≡ number_at bs (at + 3 + 1) 4 → share ≡ get_or bs (at + 3 + 5) 0 → o ≡ order_of kind image share → size ≡ number_at bs (at + 1) 2
      → record { message = record { stamp = record { 0 = stamp }; source = source; hop = hop; order = o }; start = at + 3; size = size } ≡ found_at rules bs
  found_is a t s h k i r e z =
      let source_is : source ≡ val_at bs 14 1 = s ∙ sym (val_one bs 14) in
      let hop-is : hop ≡ get_or (numbers_at bs 0 (slots rules)) 2 0 = h ∙ hop_by (eqb rules 2) bs (number_at bs 3 8) (number_at bs 14 1) in
      cc
