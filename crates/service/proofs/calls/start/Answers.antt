-- An accepted order stands in its place among those held, and its stamp behind the last starts. Assumes nothing.
use borrow.Author.Rules.{rules}
use mathlib.Core.Path.{◌≡◌, sym, ap, ap₂, ◌∙◌}
use mathlib.Core.List.{List}
use Prim.Native.Nat.{ℕ, ◌+◌}
use lib.ListN.{take}
use Rattle.lists.specs.Lists.{insert, pad}
use Rattle.clock.specs.declared.Reading.{Reading}
use Rattle.host.specs.Answers.{Said}
use Rattle.host.specs.Start.{start_refusal}
use Rattle.host.proofs.Facts.{start_is}
use Rattle.host.proofs.Numbers.{said_refusal}
use Rattle.host.proofs.Outcomes.{accepted}
use Rattle.service.specs.declared.HeldMemory.{HeldMemory}
use Rattle.service.specs.Memory.{host_from, own_from, held_memory}
use Rattle.service.specs.Inside.{memory_with, before_in, none}
use Rattle.service.proofs.Flats.{rise_in, unused_in_lem, sized_in, after_start_in}
use Rattle.service.proofs.calls.start.Goals as goal

pub hold-requires : goal.hold-requires
hold-requires c =
    let a = c.args in
    let f = a.memory.now in
    let zero : start_refusal (host_from f) a.u.0 a.order ≡ 0 = sym (ap (λ (s : Said). s.refusal) c.in_ok-sent.ensures ∙ said_refusal _ _ _) in
    let is = start_is (host_from f) a.u.0 a.order zero in
    (is.room, rise_in f is.sound, unused_in_lem f is.sound)

pub returns : goal.returns
returns c =
    let a = c.args in
    let f = a.memory.now in
    let zero : start_refusal (host_from f) a.u.0 a.order ≡ 0 = sym (ap (λ (s : Said). s.refusal) c.in_ok-sent.ensures ∙ said_refusal _ _ _) in
    let places : ℕ → List HeldMemory = λ own. pad 32 none (insert before_in (held_memory (record { stamp = a.u; source = own; order = a.order })) (take f.held f.history)) in (
      c.hold.ensures
          ∙ ap (λ (own : ℕ). memory_with f a.u c.one_more-memory.result c.with_start-memory.result (f.held + 1) (places own)) c.own_from-source.ensures
          ∙ ap₂ (λ (k : ℕ) (starts : List Reading). memory_with f a.u k starts (f.held + 1) (places (own_from f.own))) c.one_more-memory.ensures c.with_start-memory.ensures
          ∙ after_start_in f a.u a.order (sized_in f (search rules) (search rules)) zero
          ∙ sym (accepted _ _ f zero),
      c.in_ok-sent.ensures,
    )
