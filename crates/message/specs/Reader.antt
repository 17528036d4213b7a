-- "The reader keeps the message it was lent and its place in it" (01, "The message"): where it begins, and what it answers and leaves at
-- the next field. Assumes nothing.
use Rattle.std.specs.Prelude.{cond, Result, Ok, Err, List, ℕ, ◌+◌, eqb}
use Rattle.std.specs.Borrow.{Bor}
use Rattle.lists.specs.Tests.{first_of}
use Rattle.fields.specs.Fields.{number_at}
use Rattle.fields.specs.Slots.{slot_checks}
use Rattle.fields.specs.Faults.{fault}
use Rattle.fields.specs.declared.Fault.{Fault}
use Rattle.fields.specs.declared.Slot.{Slot}
use Rattle.message.specs.Calls.{answer}
use Rattle.message.specs.declared.reader.Reader.{Reader}

-- the message it was lent, at its start
abbrev pub opened : Bor (List ℕ) → Reader
opened message = record { message = message; at = 0 }

-- the numbers of each answer
abbrev pub number_says : Result ℕ Fault → ℕ × ℕ
number_says (Ok x) = (0, x)
number_says (Err f) = (fault f, 0)

-- the number of a slot in the field at a place, or the first fault of that field (02 §1)
abbrev pub next_number : List ℕ → ℕ → Slot → ℕ × ℕ
next_number bs at s = answer (first_of (slot_checks bs at s)) 0 (number_at bs (at + 3) s.width)

-- the place after that field; a field at fault is not passed
abbrev pub next_place : List ℕ → ℕ → Slot → ℕ
next_place bs at s = cond (eqb (first_of (slot_checks bs at s)) 0) (at + (3 + s.width)) at

-- the reader at the next place of the same message
abbrev pub moved : Reader → Slot → Reader
moved r s = record { message = r.message; at = next_place r.message.now r.at s }
