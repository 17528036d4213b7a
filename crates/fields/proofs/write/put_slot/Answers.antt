-- With room the three runs of bytes are one field, and without it none is stored. Assumes nothing.
use mathlib.Core.Path.{◌≡◌, ap, ◌∙◌}
use mathlib.Core.Bool.{not}
use mathlib.Core.List.{List}
use Prim.Native.Nat.{ℕ, ◌+◌}
use native.Mathlib.Omega.{arith}
use lib.ListN.{length}
use lib.Seq.{sets}
use Rattle.lists.specs.Bytes.{be}
use Rattle.lists.proofs.ByteLaws.{length_be}
use Rattle.fields.specs.Fields.{field}
use Rattle.fields.specs.declared.Slot.{Slot}
use Rattle.fields.proofs.Placing.{not_put, was_put, sets_then, field_number, length_field}
use Rattle.fields.proofs.write.put_slot.Goals as goal

abbrev bytes : Slot → ℕ → List ℕ
bytes s x = field s.tag (be s.width x)

long : (s : Slot) (x : ℕ) → length (bytes s x) ≡ 3 + s.width
long s x = length_field s.tag (be s.width x) ∙ ap (λ (n : ℕ). 3 + n) (length_be s.width x)

pub returns-then-not-has_room : goal.returns-then-not-has_room
returns-then-not-has_room c =
    let a = c.args in
    not_put _ a.at _ (bytes a.slot a.x) (long a.slot a.x) _ c.has_room.ensures (ap not c.if-not-has_room.true)

pub returns : goal.returns
returns c =
    let a = c.args in
    let s = a.slot in
    let two : a.at + 3 ≡ (a.at + 1) + length (be 2 s.width) = omega (arith, length_be 2 s.width) in
    let one : a.at + 1 ≡ a.at + length (be 1 s.tag) = omega (arith, length_be 1 s.tag) in
    let rest = sets_then _ _ _ _ _ (be 2 s.width) (be s.width a.x) c.store-2.ensures c.store-3.ensures two in
    let all = sets_then _ _ _ a.at _ (be 1 s.tag) _ c.store.ensures rest one in
    was_put _ a.at _ (bytes s a.x) (long s a.x) _ c.has_room.ensures _ (ap not c.if-not-has_room.false)
    (all ∙ ap (sets _ a.at) (field_number s.tag s.width a.x))
