-- Each promise admits one result only: it is an equation with a definition, and the numbers of an answer lead back to it. Assumes nothing.
use mathlib.Core.Path.{◌≡◌, refl, ap}
use mathlib.Core.Bool.{cond}
use mathlib.Core.List.{List}
use Prim.Native.Nat.{ℕ}
use lib.Dec.{eqb}
use lib.ListN.{length}
use denote.Ref.{Bor}
use Rattle.std.specs.Prelude.{Result, Ok, Err}
use Rattle.lists.proofs.One.{one_result, one_answer}
use Rattle.fields.specs.declared.Fault.{Fault}
use Rattle.fields.specs.declared.Slot.{Slot}
use Rattle.fields.proofs.One.{named, named_back}
use Rattle.message.specs.Calls.{write_number, write_says, written, written_to, read_number, read_says, read_of, part_of, place_of}
use Rattle.message.specs.Reader.{opened, number_says, next_number, moved}
use Rattle.message.specs.declared.Message.{Message}
use Rattle.message.specs.declared.Found.{Found}
use Rattle.message.specs.declared.WriteRefusal.{WriteRefusal}
use Rattle.message.specs.declared.WriteRefusal.TheVariants.{OutOfRange, NoRoom}
use Rattle.message.specs.declared.ReadRefusal.{ReadRefusal}
use Rattle.message.specs.declared.ReadRefusal.TheVariants.{WrongRules, NotAMessage}
use Rattle.message.specs.declared.reader.Reader.{Reader}

-- ---- `write`: its answer, and the lent bytes at exit

unfoldable wrote : ℕ × ℕ → Result ℕ WriteRefusal
wrote n = cond (eqb n.0 0) (Ok n.1) (Err (cond (eqb n.0 23) OutOfRange NoRoom))

wrote_back : (w : Result ℕ WriteRefusal) → wrote (write_says w) ≡ w
unfolding wrote
wrote_back (Ok n) = refl
wrote_back (Err OutOfRange) = refl
wrote_back (Err NoRoom) = refl

pub write_one : (rules : ℕ) (m : Message) (out : List ℕ) (r s : Result ℕ WriteRefusal) (o p : List ℕ)
    → (write_says r ≡ written rules m (length out)) × (o ≡ written_to rules m out) → (write_says s ≡ written rules m (length out)) × (p ≡ written_to rules m out)
    → (r ≡ s) × (o ≡ p)
write_one rules m out r s o p a b = (one_answer write_says wrote wrote_back r s a.0 b.0, one_result a.1 b.1)

-- ---- `read`

unfoldable got : ℕ × Found → Result Found ReadRefusal
got n = cond (eqb n.0 0) (Ok n.1) (Err (cond (eqb n.0 23) WrongRules NotAMessage))

got_back : (g : Result Found ReadRefusal) → got (read_says g) ≡ g
unfolding got
got_back (Ok f) = refl
got_back (Err WrongRules) = refl
got_back (Err NotAMessage) = refl

pub read_one : (rules : ℕ) (bs : List ℕ) (r s : Result Found ReadRefusal) → read_says r ≡ read_of rules bs → read_says s ≡ read_of rules bs → r ≡ s
read_one rules bs = one_answer read_says got got_back

-- ---- `order_part`: where the part lies, and its bytes

pub order_part_one : (rules : ℕ) (at : ℕ × ℕ) (bs : List ℕ) (r s : ℕ × ℕ) (o p : List ℕ)
    → (r ≡ place_of rules bs at) × (o ≡ part_of rules bs) → (s ≡ place_of rules bs at) × (p ≡ part_of rules bs) → (r ≡ s) × (o ≡ p)
order_part_one rules at bs r s o p a b = (one_result a.0 b.0, one_result a.1 b.1)

-- ---- `open`

pub open_one : (m : Bor (List ℕ)) (r s : Reader) → r ≡ opened m → s ≡ opened m → r ≡ s
open_one m r s = one_result

-- ---- `next_number`: its answer, and the lent reader at exit

abbrev by_verdict : Result (Unit {0}) Fault → ℕ → Result ℕ Fault
by_verdict (Ok _) x = Ok x
by_verdict (Err f) x = Err f

unfoldable numbered : ℕ × ℕ → Result ℕ Fault
numbered n = by_verdict (named n.0) n.1

numbered_back : (n : Result ℕ Fault) → numbered (number_says n) ≡ n
unfolding numbered
numbered_back (Ok x) = ap (λ (v : Result (Unit {0}) Fault). by_verdict v x) (named_back (Ok tt))
numbered_back (Err f) = ap (λ (v : Result (Unit {0}) Fault). by_verdict v 0) (named_back (Err f))

pub next_number_one : (lent : Reader) (slot : Slot) (r s : Result ℕ Fault) (o p : Reader)
    → (number_says r ≡ next_number lent.message.now lent.at slot) × (o ≡ moved lent slot)
    → (number_says s ≡ next_number lent.message.now lent.at slot) × (p ≡ moved lent slot) → (r ≡ s) × (o ≡ p)
next_number_one lent slot r s o p a b = (one_answer number_says numbered numbered_back r s a.0 b.0, one_result a.1 b.1)

-- ---- `whole` and `order_bytes`: as `read` and `order_part` of the message that the reader keeps

pub whole_one : (rules : ℕ) (kept : Reader) (r s : Result Found ReadRefusal) → read_says r ≡ read_of rules kept.message.now → read_says s ≡ read_of rules kept.message.now → r ≡ s
whole_one rules kept = read_one rules kept.message.now

pub order_bytes_one : (rules : ℕ) (kept : Reader) (r s : ℕ × ℕ) (o p : List ℕ)
    → (r ≡ place_of rules kept.message.now kept.message.ref_ptr) × (o ≡ part_of rules kept.message.now)
    → (s ≡ place_of rules kept.message.now kept.message.ref_ptr) × (p ≡ part_of rules kept.message.now) → (r ≡ s) × (o ≡ p)
order_bytes_one rules kept = order_part_one rules kept.message.ref_ptr kept.message.now

-- ---- the numbers of refusals

pub write_number_one : (refusal : WriteRefusal) (r s : ℕ) → r ≡ write_number refusal → s ≡ write_number refusal → r ≡ s
write_number_one refusal r s = one_result

pub read_number_one : (refusal : ReadRefusal) (r s : ℕ) → r ≡ read_number refusal → s ≡ read_number refusal → r ≡ s
read_number_one refusal r s = one_result
