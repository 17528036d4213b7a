-- What is left to look at is the list; each turn looks at its first. Assumes nothing.
use Rattle.std.proofs.Common.{length}
use Rattle.lists.proofs.Looks.{Looked}
use Rattle.orders.specs.Orders.{same_order}
use Rattle.host.specs.State.{same_name}
use Rattle.host.proofs.walks.look.Given as goal

abbrev pub invariant-loop-e : goal.invariant-loop-e
invariant-loop-e g l = let held = g.E.Stored.as_held in Looked (λ e. same_name l.x (held e)) (λ e. same_order l.x.order (held e).order) l.entries (length l.entries) l.seen.same l.seen.other l.seen.named l.e-index
