-- An accepted copy stands in its place among those held, and nothing else changes but the last reading. Assumes nothing.
use borrow.Author.Rules.{rules}
use mathlib.Core.Path.{◌≡◌, sym, ap, ◌∙◌}
use Rattle.host.specs.Answers.{Said}
use Rattle.host.specs.Receive.{receive_refusal}
use Rattle.host.proofs.Facts.{receive_is}
use Rattle.host.proofs.Numbers.{said_refusal}
use Rattle.host.proofs.Outcomes.{accepted}
use Rattle.service.specs.Memory.{host_from}
use Rattle.service.proofs.Flats.{rise_in, unused_in_lem, sized_in, after_copy_in}
use Rattle.service.proofs.calls.receive.Goals as goal

pub hold-requires : goal.hold-requires
hold-requires c =
    let a = c.args in
    let f = a.memory.now in
    let none : receive_refusal (host_from f) a.u.0 a.link a.hop a.copy ≡ 0 = sym (ap (λ (s : Said). s.refusal) c.in_ok-sent.ensures ∙ said_refusal _ _ _) in
    let is = receive_is (host_from f) a.u.0 a.link a.hop a.copy none in
    (is.room, rise_in f is.sound, unused_in_lem f is.sound)

pub returns : goal.returns
returns c =
    let a = c.args in
    let f = a.memory.now in
    let none : receive_refusal (host_from f) a.u.0 a.link a.hop a.copy ≡ 0 = sym (ap (λ (s : Said). s.refusal) c.in_ok-sent.ensures ∙ said_refusal _ _ _) in
    (c.hold.ensures ∙ after_copy_in f a.u a.link a.hop a.copy (sized_in f (search rules) (search rules)) none ∙ sym (accepted _ _ f none), c.in_ok-sent.ensures)
