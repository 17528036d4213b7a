-- A message's length has room in the number. Assumes nothing.
use Rattle.service.proofs.Sizes.{write_small}
use Rattle.service.proofs.messages.loom_write.Goals as goal

pub number-requires : goal.number-requires
number-requires c = write_small _ _ _ _ c.write.ensures.0
