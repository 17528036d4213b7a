-- An entry more. Assumes nothing.
use native.Mathlib.Omega.{arith}
use mathlib.Core.Path.{◌≡◌, sym, ap, ap₂, ◌∙◌}
use mathlib.Core.List.{List, [], ◌∷◌, ◌++◌, map}
use Prim.Native.Nat.{ℕ, ◌+◌, ◌*◌}
use lib.ListN.{length, length-map, take, drop, get_or}
use lib.Seq.{length-take-le, take_all, paste}
use Rattle.lists.proofs.MemberLaws.{map_append}
use Rattle.host.specs.declared.Held.{Held}
use Rattle.host.specs.Entries.{entry_of, entries_of}
use Rattle.host.proofs.Writes.{entries_turn}
use Rattle.service.specs.declared.HeldMemory.{HeldMemory}
use Rattle.service.specs.Memory.{held_from}
use Rattle.service.specs.Inside.{none}
use Rattle.service.proofs.Prefixes.{take_next}
use Rattle.service.proofs.changes.write_due.Goals as goal

pub loop-i-preserved : goal.loop-i-preserved
loop-i-preserved c =
    let s = c.loop-i in
    let l : List HeldMemory = c.args.due.now in
    let start : List ℕ = c.args.out.now in
    let e : HeldMemory = get_or l s.i none in
    let old : List HeldMemory = take s.i l in
    let long : s.i ≡ length (map held_from old) = sym (length-map old held_from ∙ length-take-le s.i l (omega arith)) in
    c.put_entry.ensures
    ∙ ap (λ (x : Held). paste s.out (16 * s.i) (entry_of x) 16) c.from.ensures
    ∙ entries_turn (map held_from old) (held_from e) s.out start s.i long s.invariant
    ∙ ap (λ (t : List Held). entries_of t ++ drop (16 * (s.i + 1)) start) (sym (ap (map held_from) (take_next none l s.i (omega arith)) ∙ map_append held_from old (e ∷ [])))

pub returns : goal.returns
returns c =
    let l : List HeldMemory = c.args.due.now in
    let end : c.loop-i.i ≡ length (map held_from l) = rw (length-map l held_from) (omega arith) in
    c.loop-i.invariant ∙ ap₂ (λ (t : List HeldMemory) (k : ℕ). entries_of (map held_from t) ++ drop (16 * k) c.args.out.now) (take_all c.loop-i.i l (omega arith)) end
