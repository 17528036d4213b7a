-- A tick delivers at most 32. Assumes nothing.
use borrow.Author.Rules.{rules}
use native.Mathlib.Omega.{arith}
use mathlib.Core.Path.{ap}
use lib.ListN.{length}
use Rattle.host.specs.Answers.{SaidTick}
use Rattle.service.proofs.Sizes.{tick_small}
use Rattle.service.proofs.Ticks.{said_few}
use Rattle.service.proofs.exports.loom_tick.Goals as goal

pub number-requires : goal.number-requires
number-requires c =
    let most = said_few c.args.memory.now (record { 0 = c.args.u }) (length c.args.out.now) (search rules) in
    tick_small _ (omega (arith, most, ap (λ (s : SaidTick). s.count) c.tick.ensures.1.0))
