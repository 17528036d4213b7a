-- From the empty set, nothing is settled yet. Assumes nothing.
use mathlib.Core.Path.{◌∙◌}
use Rattle.network.specs.Network.{worst}
use Rattle.network.specs.Inside.{at_hosts}
use Rattle.network.proofs.Halves.{from_zero}
use Rattle.network.proofs.Outs.{all_well}
use Rattle.network.proofs.worst.worst_of.Goals as goal

pub returns : goal.returns
unfolding worst
returns c = c.hosts_out.ensures ∙ from_zero _ (at_hosts c.args.p.plan)

pub hosts_out-requires-clause-pairs_2 : goal.hosts_out-requires-clause-pairs_2
hosts_out-requires-clause-pairs_2 c = all_well c.args.p.plan c.square.result c.square.ensures
