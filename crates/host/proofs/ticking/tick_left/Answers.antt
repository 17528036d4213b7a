-- Where nothing is due the state stays; else the pass over the history has each part of the new state. Assumes nothing.
use native.Mathlib.Omega.{arith}
use borrow.Author.Rules.{rules}
use mathlib.Core.Path.{◌≡◌, sym, ◌∙◌}
use borrow.Author.Tests.{eqb-true}
use lib.ListN.{length}
use lib.Seq.{length-take-le}
use Rattle.host.specs.Tick.{due_of}
use Rattle.host.proofs.Facts.{tick_is}
use Rattle.host.proofs.Fronts.{first_due, idle, none_written}
use Rattle.host.proofs.ticking.tick_left.Goals as goal

pub shared_ref_as_front-held : goal.shared_ref_as_front-held
shared_ref_as_front-held c =
    let a = c.args in
    (tick_is a.host.now a.u.0 (length a.out.now) c.requires).sound.held

pub deliver-left-requires : goal.deliver-left-requires
deliver-left-requires c =
    let a = c.args in
    let h = a.host.now in
    let k = tick_is h a.u.0 (length a.out.now) c.requires in
    let few = k.sound.held in
    let n : length h.history ≡ 32 = search rules in
    let long = length-take-le h.held h.history (omega arith) in
    (omega arith, k.fits)

pub returns-then-is_idle : goal.returns-then-is_idle
returns-then-is_idle c =
    let a = c.args in
    let h = a.host.now in
    let k = tick_is h a.u.0 (length a.out.now) c.requires in
    let n : length h.history ≡ 32 = search rules in
    let none : length (due_of h a.u.0) ≡ 0 = eqb-true _ _ (sym (c.is_idle.ensures ∙ first_due h a.u.0 n k.sound) ∙ c.if-is_idle.true) in
    record {
      value = rw c.requires (sym (idle h a.u n k.sound none));
      out_after = rw c.requires (sym (none_written (due_of h a.u.0) a.out.now none));
    }
