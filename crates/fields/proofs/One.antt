-- The promise of each public function admits one result only. Assumes nothing.
use mathlib.Core.Path.{◌≡◌, refl}
use mathlib.Core.Bool.{Bool, cond}
use mathlib.Core.List.{List}
use Prim.Native.Nat.{ℕ, ◌+◌}
use lib.Dec.{leb, eqb}
use lib.ListN.{length, get_or}
use Rattle.std.specs.Prelude.{Result, Ok, Err}
use Rattle.lists.specs.Tests.{first_of}
use Rattle.lists.specs.Bytes.{be}
use Rattle.lists.proofs.One.{one_result, one_answer}
use Rattle.fields.specs.Fields.{field, placed, number_at, head_checks, value_checks}
use Rattle.fields.specs.Slots.{slot_checks}
use Rattle.fields.specs.Faults.{fault, verdict}
use Rattle.fields.specs.declared.Slot.{Slot}
use Rattle.fields.specs.declared.Fault.{Fault}
use Rattle.fields.specs.declared.Fault.TheVariants.{CutShort, WrongTag, WrongLength, WrongValue, LeftOver}

-- ---- numbers read

pub byte_at_one : (bs : List ℕ) (at r s : ℕ) → r ≡ get_or bs at 0 → s ≡ get_or bs at 0 → r ≡ s
byte_at_one bs at r s = one_result

pub value_at_one : (bs : List ℕ) (at width r s : ℕ) → r ≡ number_at bs at width → s ≡ number_at bs at width → r ≡ s
value_at_one bs at width r s = one_result

-- ---- verdicts: their numbers lead back to them

unfoldable pub named : ℕ → Result (Unit {0}) Fault
named n =
    cond (eqb n 0) (Ok tt)
    (Err (cond (eqb n 33) CutShort (cond (eqb n 34) WrongTag (cond (eqb n 35) WrongLength (cond (eqb n 36) WrongValue LeftOver)))))

pub named_back : (v : Result (Unit {0}) Fault) → named (verdict v) ≡ v
unfolding named
named_back (Ok _) = refl
named_back (Err CutShort) = refl
named_back (Err WrongTag) = refl
named_back (Err WrongLength) = refl
named_back (Err WrongValue) = refl
named_back (Err LeftOver) = refl

pub one_verdict : {defined : ℕ} (v w : Result (Unit {0}) Fault) → verdict v ≡ defined → verdict w ≡ defined → v ≡ w
one_verdict = one_answer verdict named named_back

pub head_fault_one : (bs : List ℕ) (at tag : ℕ) (r s : Result (Unit {0}) Fault) → verdict r ≡ first_of (head_checks bs at tag) → verdict s ≡ first_of (head_checks bs at tag) → r ≡ s
head_fault_one bs at tag = one_verdict

pub slot_fault_one : (bs : List ℕ) (at : ℕ) (slot : Slot) (r s : Result (Unit {0}) Fault) → verdict r ≡ first_of (slot_checks bs at slot) → verdict s ≡ first_of (slot_checks bs at slot) → r ≡ s
slot_fault_one bs at slot = one_verdict

pub value_fault_one : (mismatch outside : Bool) (r s : Result (Unit {0}) Fault) → verdict r ≡ first_of (value_checks mismatch outside) → verdict s ≡ first_of (value_checks mismatch outside) → r ≡ s
value_fault_one mismatch outside = one_verdict

-- ---- `put` and `put_slot`: the answer, and the lent bytes at exit

pub put_one : (out : List ℕ) (at width x : ℕ) (r s : Bool) (o p : List ℕ)
    → (r ≡ leb (at + width) (length out)) × (o ≡ placed out at (be width x)) → (s ≡ leb (at + width) (length out)) × (p ≡ placed out at (be width x))
    → (r ≡ s) × (o ≡ p)
put_one out at width x r s o p a b = (one_result a.0 b.0, one_result a.1 b.1)

pub put_slot_one : (out : List ℕ) (at : ℕ) (slot : Slot) (x : ℕ) (r s : Bool) (o p : List ℕ)
    → (r ≡ leb (at + (3 + slot.width)) (length out)) × (o ≡ placed out at (field slot.tag (be slot.width x)))
    → (s ≡ leb (at + (3 + slot.width)) (length out)) × (p ≡ placed out at (field slot.tag (be slot.width x)))
    → (r ≡ s) × (o ≡ p)
put_slot_one out at slot x r s o p a b = (one_result a.0 b.0, one_result a.1 b.1)

-- ---- the number of a fault

pub fault_number_one : (f : Fault) (r s : ℕ) → r ≡ fault f → s ≡ fault f → r ≡ s
fault_number_one f r s = one_result
