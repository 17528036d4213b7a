-- The verdict on the slot, with its place. Assumes nothing.
use borrow.Author.Rules.{rules}
use Rattle.message.proofs.ReadLaws.{field_judged}
use Rattle.message.proofs.reading.judge_slot.Goals as goal

pub returns : goal.returns
returns c = field_judged _ _ c.slot_fault.result c.map_err.result c.slot_fault.ensures (search rules)
