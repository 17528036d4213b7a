-- Each call makes the station of its place. Assumes nothing.
use borrow.Author.Rules.{rules}
use Rattle.engine.specs.Inside.{fresh_station}
use Rattle.engine.specs.Parts.{no_station}
use Rattle.engine.proofs.Turns.{listed_of}
use Rattle.engine.proofs.opening.fresh_stations.Goals as goal

pub returns : goal.returns
returns c = let all = c.from_fn.ensures.items in
    listed_of no_station (fresh_station c.args.first) 8 c.from_fn.result all.long (λ i h. let called = all.at i no_station h in search rules)
