-- What only private contracts say. Assumes nothing.
use Rattle.std.specs.Prelude.{Bool, cond, Result, Ok, Err, List, [], ◌∷◌, ◌++◌, ℕ, eqb, length}
use Rattle.lists.specs.Bytes.{be}
use Rattle.orders.specs.Orders.{kind_of, image_of, order_bytes}
use Rattle.orders.specs.declared.Order.{Order}
use Rattle.fields.specs.Faults.{fault}
use Rattle.fields.specs.Slots.{slot_fields}
use Rattle.message.specs.Layout.{hop_slot}
use Rattle.message.specs.declared.reading.Misplaced.{Misplaced}

-- the first fault's number and the place where its field begins
abbrev pub judged : Result (Unit {0}) Misplaced → ℕ × ℕ
judged (Ok _) = (0, 0)
judged (Err m) = (fault m.fault, m.place)

-- the hop's field, which the second rules have
abbrev pub hop_fields : ℕ → List ℕ → List (ℕ × List (ℕ × Bool))
hop_fields rules bs = slot_fields bs 15 (cond (eqb rules 2) (hop_slot ∷ []) [])

-- field 4 up to the image: tag, length, kind, image
abbrev pub order_start : Order → List ℕ
order_start o = be 1 4 ++ be 2 (length (order_bytes o)) ++ be 1 (kind_of o) ++ be 4 (image_of o)
