-- The board's own call, over the memory's places. Assumes nothing.
use Rattle.service.proofs.Settled.{is_left}
use Rattle.service.proofs.boards.apply.Goals as goal

pub returns : goal.returns
returns c = let e = c.apply_in.ensures in (is_left c.args.memory.now _ c.args.order c.apply_in.result e.answer e.board e.refused, e.answer)
