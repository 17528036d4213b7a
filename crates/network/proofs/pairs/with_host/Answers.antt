-- The mask is computed for each host. Assumes nothing.
use Rattle.network.proofs.PairLaws.{with_host_lem}
use Rattle.network.proofs.pairs.with_host.Goals as goal

pub returns : goal.returns
returns c = with_host_lem c.args.h c.requires
