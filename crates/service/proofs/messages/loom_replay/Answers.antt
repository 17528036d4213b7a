-- The report's length has room in the number. Assumes nothing.
use Rattle.service.proofs.Sizes.{told_small}
use Rattle.service.proofs.messages.loom_replay.Goals as goal

pub number-requires : goal.number-requires
number-requires c = told_small _ _ _ c.report.ensures.numbers
