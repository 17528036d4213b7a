-- Of those looked at, the due ones are written and the others are kept, each behind those before it. Assumes nothing.
use borrow.Author.Rules.{rules}
use native.Mathlib.Omega.{arith}
use mathlib.Core.Path.{◌≡◌, sym, ap, ◌∙◌}
use Prim.Native.Nat.{ℕ, ◌+◌, ◌-◌, ◌*◌, ◌≤◌, ◌<◌}
use mathlib.Core.Bool.{Bool, true, false, not}
use mathlib.Core.List.{List, ◌++◌}
use native.Mathlib.Nat.{le_refl}
use lib.Seq.{take_all}
use lib.ListN.{length, take, drop, get_or, set}
use Rattle.host.specs.declared.Held.{Held}
use Rattle.lists.specs.Lists.{keep, pad}
use Rattle.lists.proofs.Places.{pad_more}
use Rattle.host.specs.State.{no_held}
use Rattle.host.specs.Entries.{entries_of}
use Rattle.host.specs.Tick.{due}
use Rattle.lists.proofs.Loops.{keep_yes, keep_no, count_yes, keep_grows}
use Rattle.host.proofs.Writes.{entries_turn}
use Rattle.host.proofs.ticking.deliver.Goals.{then-is_due, else-is_due}
use Rattle.host.proofs.ticking.deliver.Goals as goal

pub put_entry-requires : goal.put_entry-requires
put_entry-requires c =
    let a = c.args in
    let s = c.loop-e in
    let l : List Held = a.history.now in
    let p = due a.bound a.u.0 in
    let test : p (get_or l s.e-index no_held) ≡ true = sym c.is_due.ensures ∙ c.if-is_due.true in
    let inside : s.e-index < length l = search rules in
    let more = count_yes p no_held l s.e-index inside test in
    let most : length (keep p (take (s.e-index + 1) l)) ≤ length (keep p (take (s.e-index + 1 + (length l - (s.e-index + 1))) l)) = keep_grows p l (s.e-index + 1) (length l - (s.e-index + 1)) in
    let end : s.e-index + 1 + (length l - (s.e-index + 1)) ≡ length l = omega arith in
    let room : length (keep p (take (s.e-index + 1) l)) ≤ length (keep p l) = rw (end, take_all (length l) l (le_refl (length l))) at most in
    omega arith

pub loop-e-preserved : goal.loop-e-preserved
loop-e-preserved c =
    let a = c.args in
    let s = c.loop-e in
    let l : List Held = a.history.now in
    let p = due a.bound a.u.0 in
    let q : Held → Bool = λ e. not (p e) in
    let e : Held = get_or l s.e-index no_held in
    let inside : s.e-index < length l = search rules in
    elim c.if-is_due.branch [
      | then-is_due w ↦
          let test : p e ≡ true = sym c.is_due.ensures ∙ w.if-is_due.true in
          let yes = keep_yes p no_held l s.e-index inside test in
          let no = keep_no q no_held l s.e-index inside (ap not test) in (
            w.delivered-is ∙ ap (λ (k : ℕ). k + 1) s.invariant.0 ∙ sym (count_yes p no_held l s.e-index inside test),
            w.waiting-is ∙ s.invariant.1 ∙ sym (ap length no),
            rw (w.delivered-is, w.waiting-is) (omega arith),
            w.rest-is ∙ s.invariant.3 ∙ ap (λ (t : List Held). pad 32 no_held t) (sym no),
            c.if-is_due.auto.out ∙ s.invariant.4,
            rw w.delivered-is
                (w.out-is
                ∙ w.put_entry.ensures
                ∙ entries_turn (keep p (take s.e-index l)) e s.out a.out.now s.delivered s.invariant.0 s.invariant.5
                ∙ ap (λ (t : List Held). entries_of t ++ drop (16 * (s.delivered + 1)) a.out.now) (sym yes)),
          )
      | else-is_due w ↦
          let test : p e ≡ false = sym c.is_due.ensures ∙ w.if-is_due.false in
          let yes = keep_yes q no_held l s.e-index inside (ap not test) in
          let no = keep_no p no_held l s.e-index inside test in (
            w.delivered-is ∙ s.invariant.0 ∙ sym (ap length no),
            w.waiting-is ∙ ap (λ (k : ℕ). k + 1) s.invariant.1 ∙ sym (count_yes q no_held l s.e-index inside (ap not test)),
            rw (w.delivered-is, w.waiting-is) (omega arith),
            w.rest-is
                ∙ ap (λ (t : List Held). set t s.waiting e) s.invariant.3
                ∙ ap (λ (k : ℕ). set (pad 32 no_held (keep q (take s.e-index l))) k e) s.invariant.1
                ∙ pad_more 32 no_held e (keep q (take s.e-index l)) (omega arith)
                ∙ ap (λ (t : List Held). pad 32 no_held t) (sym yes),
            c.if-is_due.auto.out ∙ s.invariant.4,
            rw w.delivered-is (w.out-is ∙ s.invariant.5 ∙ ap (λ (t : List Held). entries_of t ++ drop (16 * s.delivered) a.out.now) (sym no)),
          )
    ]
