-- Four bytes fit. Assumes nothing.
use native.Mathlib.Omega.{arith}
use Rattle.lists.proofs.ByteLaws.{val_lt}
use Rattle.schedule.proofs.starts.image_at.Goals as goal

pub overflow_cast-result : goal.overflow_cast-result
overflow_cast-result c = omega (arith, c.value_at.ensures, val_lt c.args.bytes.now (λ i. (c.type_inv.bytes i).fits) c.args.at 4)
