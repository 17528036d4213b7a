-- Each call takes the log of its station. Assumes nothing.
use borrow.Author.Rules.{rules}
use lib.ListN.{get_or}
use Rattle.engine.specs.Parts.{no_log, no_station}
use Rattle.engine.proofs.Turns.{listed_of}
use Rattle.engine.proofs.playing.logs_of.Goals as goal

pub returns : goal.returns
returns c = let all = c.map.ensures.items in
    listed_of no_log (λ p. (get_or c.args.stations p no_station).log) 8 c.map.result all.long (λ i h. let called = all.at i no_station no_log h in search rules)
