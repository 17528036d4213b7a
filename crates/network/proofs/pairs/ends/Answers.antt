-- One bit for the link, and one for the link turned round. Assumes nothing.
use Rattle.network.specs.Inside.{joins}
use Rattle.network.proofs.PairLaws.{both_ways}
use Rattle.network.proofs.pairs.ends.Goals as goal

pub returns : goal.returns
unfolding joins
returns c = both_ways c.args.l.a c.args.l.b c.requires.0 c.requires.1
