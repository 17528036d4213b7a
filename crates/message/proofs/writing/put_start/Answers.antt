-- The four runs of bytes, put one after the other, are one. Assumes nothing.
use Rattle.message.proofs.WriteLaws.{start_put}
use Rattle.message.proofs.writing.put_start.Goals as goal

pub returns : goal.returns
returns c =
    start_put c.args.order c.args.out.now _ _ _ _ c.args.at _ _ _ c.requires c.size.ensures c.kind.ensures c.image.ensures
    c.put.ensures.1 c.put-2.ensures.1 c.put-3.ensures.1 c.put-4.ensures.1
