-- The layout of a message, once, as data: how it is written, and what can be wrong where it is read (01, "The message"; 02 §1).
-- Assumes nothing.
use Rattle.std.specs.Prelude.{Bool, cond, List, [], ◌∷◌, ◌++◌, ℕ, ◌+◌, ltb, eqb, length, get_or}
use Rattle.lists.specs.Lists.{flat}
use Rattle.clock.specs.Clock.{largest_stamp}
use Rattle.orders.specs.Orders.{order_at, order_bytes, wrong_size, wrong_value}
use Rattle.orders.specs.declared.Order.{Order}
use Rattle.fields.specs.Fields.{field, stated_at, checks}
use Rattle.fields.specs.Slots.{span, filled, slot_fields, numbers_at}
use Rattle.fields.specs.declared.Slot.{Slot}
use Rattle.message.specs.declared.Message.{Message}
use Rattle.message.specs.declared.Found.{Found}

-- "1 stamp (8 bytes), 2 source (1, 0..7), 3 hop (1, second rules only)"
abbrev pub stamp_slot : Slot
stamp_slot = record { tag = 1; width = 8; least = 0; largest = largest_stamp }

abbrev pub source_slot : Slot
source_slot = record { tag = 2; width = 1; least = 0; largest = 7 }

abbrev pub hop_slot : Slot
hop_slot = record { tag = 3; width = 1; least = 1; largest = 8 }

abbrev pub slots : ℕ → List Slot
slots rules = stamp_slot ∷ source_slot ∷ cond (eqb rules 2) (hop_slot ∷ []) []

-- the numbers of a message that stand in them
abbrev pub numbers : ℕ → Message → List ℕ
numbers rules m = m.stamp.0 ∷ m.source ∷ cond (eqb rules 2) (m.hop ∷ []) []

-- "Fields .. each once, in rising tag", the last "4 order (kind, image, and share for publish; 6 or 5 bytes)"
unfoldable pub layout : ℕ → Message → List ℕ
layout rules m = flat (filled (slots rules) (numbers rules m)) ++ field 4 (order_bytes m.order)

-- where field 4 begins
abbrev pub order_place : ℕ → ℕ
order_place rules = span (slots rules)

-- ---- what can be wrong, from the front

abbrev pub order_checks : List ℕ → ℕ → List (ℕ × Bool)
order_checks bs at = checks bs at 4 (wrong_size (get_or bs (at + 3) 0) (stated_at bs at)) (wrong_value (get_or bs (at + 3) 0) (get_or bs (at + 8) 0))

-- field 4 at a place, and "Nothing may follow": 37 for the first byte left over
abbrev pub ending : List ℕ → ℕ → List (ℕ × List (ℕ × Bool))
ending bs at = (at, order_checks bs at) ∷ (at + 3 + stated_at bs at, (37, ltb (at + 3 + stated_at bs at) (length bs)) ∷ []) ∷ []

-- each field: where it begins, and its checks
abbrev pub message_fields : ℕ → List ℕ → List (ℕ × List (ℕ × Bool))
message_fields rules bs = slot_fields bs 0 (slots rules) ++ ending bs (order_place rules)

-- ---- the message that stands in bytes with no fault

-- the hop is 0 where no slot holds it
abbrev pub message_of : List ℕ → Order → Message
message_of xs o = record { stamp = record { 0 = get_or xs 0 0 }; source = get_or xs 1 0; hop = get_or xs 2 0; order = o }

-- with the place and the length of field 4's value
abbrev pub found_at : ℕ → List ℕ → Found
found_at rules bs =
    record {
      message = message_of (numbers_at bs 0 (slots rules)) (order_at bs (order_place rules + 3));
      start = order_place rules + 3;
      size = stated_at bs (order_place rules);
    }
