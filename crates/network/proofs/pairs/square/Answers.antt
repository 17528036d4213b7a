-- The mask is computed for each n. Assumes nothing.
use native.Mathlib.Omega.{arith}
use Rattle.network.proofs.PairLaws.{first_hosts_lem}
use Rattle.network.proofs.pairs.square.Goals as goal

pub returns : goal.returns
returns c = first_hosts_lem c.args.n (omega arith)
