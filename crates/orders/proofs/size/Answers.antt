-- An order has as many bytes as its kind says. Assumes nothing.
use mathlib.Core.Path.{sym, ap, ◌∙◌}
use Rattle.orders.specs.Orders.{size_of}
use Rattle.orders.proofs.Laws.{size_bytes}
use Rattle.orders.proofs.size.Goals as goal

pub returns : goal.returns
returns c = c.size_of.ensures ∙ ap size_of c.kind.ensures ∙ sym (size_bytes _)
