-- The stamp and the image are written by std, in the bytes of the definition. Assumes nothing.
use Rattle.orders.specs.Orders.{image_of}
use Rattle.host.specs.Entries.{entry_of}
use Rattle.host.proofs.Lists.{be_same}
use Rattle.host.proofs.entries.entry.Goals as goal

pub returns : goal.returns
unfolding entry_of
returns c = rw (c.to_be_bytes-t.ensures, c.to_be_bytes-of.ensures, c.image.ensures, c.kind.ensures, c.share.ensures, ← be_same 8 c.args.e.stamp.0, ← be_same 4 (image_of c.args.e.order))
