-- What is left to look at is the list; each turn looks at its first. Assumes nothing.
use native.Mathlib.Nat.{le_refl}
use Rattle.std.proofs.Common.{rules, ◌≡◌, sym, ap, ◌∙◌, true, false, length, ◌+◌, subst}
use Rattle.lists.proofs.Looks.{Looked, look_all}
use Rattle.host.proofs.Looking.{look_found, look_passed}
use Rattle.host.specs.declared.Seen.{Seen}
use Rattle.orders.specs.Orders.{same_order}
use Rattle.host.specs.State.{same_name}
use Rattle.host.proofs.walks.look.Goals as goal
use Rattle.host.proofs.walks.look.Goals.{then-eq+then-x-source+then-eq-2, then-eq+then-x-source+else-eq-2, else-eq, else-eq-via-then-eq+else-x-source, else-eq-via-else-eq}

pub loop-e-preserved : goal.loop-e-preserved
loop-e-preserved g c =
    let held = g.E.Stored.as_held in
    let x = c.args.x in
    let e = c.e-item.result in
    let turn = λ (s : Seen). Looked (λ y. same_name x (held y)) (λ y. same_order x.order (held y).order) c.args.entries.now (length c.args.entries.now) s.same s.other s.named (c.loop-e.e-index + 1) in
    let at = c.e-item.is in
    elim c.if-eq.branch [
      | then-eq+then-x-source+then-eq-2 w ↦
          let name : true ≡ same_name x (held e) = search rules in
          let alike : true ≡ same_order x.order (held e).order = search rules in
          subst turn (sym w.seen-is) (look_found e c.loop-e.invariant (le_refl _) c.loop-e-test.true true (name ∙ ap (λ y. same_name x (held y)) at) (alike ∙ ap (λ y. same_order x.order (held y).order) at))
      | then-eq+then-x-source+else-eq-2 w ↦
          let name : true ≡ same_name x (held e) = search rules in
          let alike : false ≡ same_order x.order (held e).order = search rules in
          subst turn (sym w.seen-is) (look_found e c.loop-e.invariant (le_refl _) c.loop-e-test.true false (name ∙ ap (λ y. same_name x (held y)) at) (alike ∙ ap (λ y. same_order x.order (held y).order) at))
      | else-eq w ↦
          let name : false ≡ same_name x (held e) = elim w.else-eq.branch [ else-eq-via-then-eq+else-x-source w' ↦ search rules | else-eq-via-else-eq w' ↦ search rules ] in
          subst turn (sym w.seen-is) (look_passed e c.loop-e.invariant (le_refl _) c.loop-e-test.true (name ∙ ap (λ y. same_name x (held y)) at))
    ]

pub returns-clause-same_value : goal.returns-clause-same_value
returns-clause-same_value g c = (look_all g.E.Stored.as_held (same_name c.args.x) (λ e. same_order c.args.x.order e.order) c.loop-e.invariant c.loop-e-test.false).0

pub returns-clause-other_value : goal.returns-clause-other_value
returns-clause-other_value g c = (look_all g.E.Stored.as_held (same_name c.args.x) (λ e. same_order c.args.x.order e.order) c.loop-e.invariant c.loop-e-test.false).1.0

pub returns-clause-named_value : goal.returns-clause-named_value
returns-clause-named_value g c = (look_all g.E.Stored.as_held (same_name c.args.x) (λ e. same_order c.args.x.order e.order) c.loop-e.invariant c.loop-e-test.false).1.1
