-- What writing and reading answer, and what they leave (01, "Refusal numbers"). Assumes nothing.
use Rattle.std.specs.Prelude.{Bool, cond, not, Result, Ok, Err, List, [], ◌∷◌, ◌++◌, ℕ, ◌+◌, leb, ltb, eqb, length, take, drop}
use Rattle.lists.specs.Tests.{all_of, first_of}
use Rattle.clock.specs.Clock.{largest_stamp}
use Rattle.orders.specs.Orders.{share_fits}
use Rattle.orders.specs.Rules.{is_rules, hop_fits}
use Rattle.orders.specs.declared.Order.TheVariants.{Publish}
use Rattle.fields.specs.Faults.{first}
use Rattle.message.specs.Layout.{layout, message_fields, found_at}
use Rattle.message.specs.declared.Message.{Message}
use Rattle.message.specs.declared.Found.{Found}
use Rattle.message.specs.declared.WriteRefusal.{WriteRefusal}
use Rattle.message.specs.declared.WriteRefusal.TheVariants.{OutOfRange, NoRoom}
use Rattle.message.specs.declared.ReadRefusal.{ReadRefusal}
use Rattle.message.specs.declared.ReadRefusal.TheVariants.{WrongRules, NotAMessage}

-- "A refusal returns its number and zero elsewhere"; 0 is no refusal
abbrev pub answer : {A : Type 0} → ℕ → A → A → ℕ × A
answer refusal zero value = (refusal, cond (eqb refusal 0) value zero)

-- ---- writing

-- 23: "a rule set other than 1 or 2, a stamp, hop or share out of range, or in writing a source above 7"
unfoldable pub in_range : ℕ → Message → Bool
in_range rules m = all_of (is_rules rules ∷ leb m.stamp.0 largest_stamp ∷ leb m.source 7 ∷ hop_fits rules m.hop ∷ share_fits m.order ∷ [])

-- "write 23, 22", 22 where the lent buffer of so many bytes is too short
abbrev pub write_refusal : ℕ → Message → ℕ → ℕ
write_refusal rules m room = first_of ((23, not (in_range rules m)) ∷ (22, ltb room (length (layout rules m))) ∷ [])

-- the number of each refusal, and the numbers of each answer
abbrev pub write_number : WriteRefusal → ℕ
write_number OutOfRange = 23
write_number NoRoom = 22

abbrev pub write_says : Result ℕ WriteRefusal → ℕ × ℕ
write_says (Ok n) = (0, n)
write_says (Err r) = (write_number r, 0)

abbrev pub written : ℕ → Message → ℕ → ℕ × ℕ
written rules m room = answer (write_refusal rules m room) 0 (length (layout rules m))

-- "bytes past a written message stay as they were", and on a refusal all do
abbrev pub written_to : ℕ → Message → List ℕ → List ℕ
written_to rules m out = cond (eqb (write_refusal rules m (length out)) 0) (layout rules m ++ drop (length (layout rules m)) out) out

-- ---- reading

-- "read 23, 30": "Every fault, out-of-range values included, is 30"
abbrev pub read_refusal : ℕ → List ℕ → ℕ
read_refusal rules bs = first_of ((23, not (is_rules rules)) ∷ (30, not (eqb (first (message_fields rules bs)).0 0)) ∷ [])

-- nothing found: all zero
abbrev pub nothing : Found
nothing = record { message = record { stamp = record { 0 = 0 }; source = 0; hop = 0; order = Publish 0 0 }; start = 0; size = 0 }

abbrev pub read_number : ReadRefusal → ℕ
read_number WrongRules = 23
read_number NotAMessage = 30

abbrev pub read_says : Result Found ReadRefusal → ℕ × Found
read_says (Ok f) = (0, f)
read_says (Err r) = (read_number r, nothing)

abbrev pub read_of : ℕ → List ℕ → ℕ × Found
read_of rules bs = answer (read_refusal rules bs) nothing (found_at rules bs)

-- "The order field is handed back as that part of the message": its bytes, and where they lie, so many from the message's own place
abbrev pub part_of : ℕ → List ℕ → List ℕ
part_of rules bs = take (read_of rules bs).1.size (drop (read_of rules bs).1.start bs)

abbrev pub place_of : ℕ → List ℕ → ℕ × ℕ → ℕ × ℕ
place_of rules bs p = (p.0, (read_of rules bs).1.start + p.1)
