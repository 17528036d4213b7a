-- A message ends with its order, so the part lies within it. Assumes nothing.
use mathlib.Core.Path.{sym, ap, ◌∙◌}
use native.Mathlib.Omega.{arith}
use Rattle.message.specs.Calls.{read_says}
use Rattle.message.proofs.ReadLaws.{read_room}
use Rattle.message.proofs.reading.order_part.Goals as goal

pub overflow_add-end : goal.overflow_add-end
overflow_add-end c = let h = read_room c.args.rules c.args.bytes.now _ (sym (ap read_says c.in-Ok.is) ∙ c.read.ensures) in omega arith

pub slice_bounds-result-end : goal.slice_bounds-result-end
slice_bounds-result-end c = let h = read_room c.args.rules c.args.bytes.now _ (sym (ap read_says c.in-Ok.is) ∙ c.read.ensures) in omega arith
