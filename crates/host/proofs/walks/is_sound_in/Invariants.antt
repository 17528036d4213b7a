-- Each turn tests the first of what is left, and what is left still decides. Behind those in use the unused places are gathered. Assumes nothing.
use Rattle.std.proofs.Common.{nat_eq}
use Rattle.lists.proofs.Steps.{Stepped}
use Rattle.lists.proofs.Walks.{Tested}
use Rattle.host.specs.State.{bare, before, fits, is_no_held, last_start}
use Rattle.host.proofs.Owns.{Ended}
use Rattle.host.proofs.walks.is_sound_in.Given as goal

abbrev pub invariant-loop-e : goal.invariant-loop-e
invariant-loop-e g l =
    let held = g.E.Stored.as_held in
    Stepped (λ e. fits l.frame.plan.hosts (held e)) (λ x y. before (held x) (held y)) l.used l.previous l.e-index
    × Ended l.frame.own l.frame.started (last_start (bare l.frame)) held l.used l.previous l.own_end l.e-index

abbrev pub invariant-loop-e-2 : goal.invariant-loop-e-2
invariant-loop-e-2 g l = Tested (λ e. is_no_held (g.E.Stored.as_held e)) l.unused 0 (nat_eq l.bits 0) l.e-index
