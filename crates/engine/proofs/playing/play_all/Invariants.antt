-- At the head of the loop the world is that before tick t. Within: each host below p has ticked, and one to which nothing is due has only taken the
-- reading; then each copy below c that arrives is handed over; then each start below k that is at this tick is told to its host. Assumes nothing.
use mathlib.Core.Path.{◌≡◌}
use Rattle.engine.specs.Turns.{in_turn}
use Rattle.engine.specs.Run.{tick_one, arrive_one, start_one, world}
use Rattle.engine.specs.Inside.{world_of}
use Rattle.engine.proofs.playing.play_all.Given as goal

abbrev pub invariant-loop-p : goal.invariant-loop-p
invariant-loop-p l = l.stations ≡ in_turn l.p (tick_one l.s l.now) l.initial.stations

abbrev pub invariant-loop-c : goal.invariant-loop-c
invariant-loop-c l = world_of l.stations l.post l.refusals ≡ in_turn l.c (arrive_one l.s l.now) (world_of l.initial.stations l.initial.post l.refusals)

abbrev pub invariant-loop-k : goal.invariant-loop-k
invariant-loop-k l = world_of l.stations l.post l.refusals ≡ in_turn l.k (start_one l.s l.now) (world_of l.initial.stations l.initial.post l.initial.refusals)

abbrev pub invariant-loop-t : goal.invariant-loop-t
invariant-loop-t l = world_of l.stations l.post l.refusals ≡ world l.s l.t
