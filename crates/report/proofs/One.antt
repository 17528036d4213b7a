-- The promise of `report` admits one result only: its answer's numbers lead back to it, and the buffer is an equation with a definition.
-- Assumes nothing.
use mathlib.Core.Path.{◌≡◌, refl}
use mathlib.Core.Bool.{cond}
use mathlib.Core.List.{List}
use Prim.Native.Nat.{ℕ}
use lib.Dec.{eqb}
use Rattle.std.specs.Prelude.{Result, Ok, Err}
use Rattle.lists.proofs.One.{one_result, one_answer}
use Rattle.report.specs.declared.ShortBuffer.{ShortBuffer}
use Rattle.report.specs.Calls.{reported, says, told, left}

unfoldable told_by : ℕ × ℕ → Result ℕ ShortBuffer
told_by n = cond (eqb n.0 0) (Ok n.1) (Err (record {}))

told_back : (t : Result ℕ ShortBuffer) → told_by (says t) ≡ t
unfolding told_by
told_back (Ok n) = refl
told_back (Err e) = refl

pub one_told : {numbers : ℕ × ℕ} (r s : Result ℕ ShortBuffer) → says r ≡ numbers → says s ≡ numbers → r ≡ s
one_told = one_answer says told_by told_back

pub report_one : (bs out : List ℕ) (r s : Result ℕ ShortBuffer) (o p : List ℕ)
    → (says r ≡ told (reported bs) out) × (o ≡ left (reported bs) out) → (says s ≡ told (reported bs) out) × (p ≡ left (reported bs) out)
    → (r ≡ s) × (o ≡ p)
report_one bs out r s o p a b = (one_told r s a.0 b.0, one_result a.1 b.1)

-- the number of a refusal
pub short_buffer_number_one : (refusal : ShortBuffer) (r s : ℕ) → r ≡ 22 → s ≡ 22 → r ≡ s
short_buffer_number_one refusal r s = one_result
