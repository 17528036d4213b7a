-- What a field that was looked at says of the bytes. Assumes nothing.
use mathlib.Core.Path.{◌≡◌, refl, sym, ◌∙◌}
use mathlib.Core.Bool.{Bool}
use mathlib.Core.List.{List}
use Prim.Native.Nat.{ℕ, zero, suc, ◌+◌, ◌≤◌}
use native.Mathlib.Omega.{arith}
use borrow.Author.Tests.{ltb-false, eqb-true, not-false}
use lib.Dec.{eqb}
use lib.ListN.{length, get_or, get_or-eq_default}
use Rattle.lists.specs.Bytes.{val_at}
use Rattle.lists.specs.Tests.{first_of}
use Rattle.lists.proofs.TestLaws.{none_pass, first_of_right}
use Rattle.fields.specs.Fields.{stated_at, head_checks, value_checks, checks}

-- past the end all bytes count as 0
pub val_past : (bs : List ℕ) (at k : ℕ) → length bs ≤ at → val_at bs at k ≡ 0
unfolding val_at
val_past bs at zero h = refl
val_past bs at (suc k) h =
    let p : val_at bs at k ≡ 0 = val_past bs at k h in
    let q : get_or bs (at + k) 0 ≡ 0 = get_or-eq_default bs 0 {n = at + k} (omega arith) in
    omega arith

-- a head with nothing wrong
pub record HeadIs (bs : List ℕ) (at tag : ℕ) : Type 0 where
  pub room : at + 3 + stated_at bs at ≤ length bs
  pub tagged : get_or bs at 0 ≡ tag

pub head_is : (bs : List ℕ) (at tag : ℕ) → first_of (head_checks bs at tag) ≡ 0 → HeadIs bs at tag
head_is bs at tag e =
    let p = none_pass (head_checks bs at tag) refl e in
    record {
      room = ltb-false (length bs) (at + 3 + stated_at bs at) p.0;
      tagged = eqb-true (get_or bs at 0) tag (not-false (eqb (get_or bs at 0) tag) p.1.0);
    }

-- past a head with nothing wrong
pub past_head : (bs : List ℕ) (at tag : ℕ) → 0 ≡ first_of (head_checks bs at tag) → (wrong_length wrong_value : Bool) (n : ℕ)
    → n ≡ first_of (value_checks wrong_length wrong_value) → n ≡ first_of (checks bs at tag wrong_length wrong_value)
past_head bs at tag e wrong_length wrong_value n g =
    g ∙ sym (first_of_right (head_checks bs at tag) (value_checks wrong_length wrong_value) refl (sym e))
