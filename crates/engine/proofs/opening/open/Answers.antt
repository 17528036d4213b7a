-- Fresh hosts, since planning accepts the plan. Assumes nothing.
use mathlib.Core.Path.{sym, ap, ◌∙◌}
use Rattle.host.specs.Make.{made}
use Rattle.engine.proofs.Openings.{is_made, opened}
use Rattle.engine.proofs.opening.open.Goals as goal

pub unwrap-requires : goal.unwrap-requires
unwrap-requires c = is_made c.args.s.now c.requires c.make.result c.make.ensures.answer_value

pub returns : goal.returns
returns c = opened c.args.s.now c.requires _ _ (sym (ap made c.unwrap.ensures) ∙ c.make.ensures.host_value) c.fresh_stations.ensures
