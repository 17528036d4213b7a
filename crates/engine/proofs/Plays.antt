-- One tick of a run, and what a run leaves. Assumes nothing.
use mathlib.Core.Path.{◌≡◌, ap, ◌∙◌}
use mathlib.Core.List.{List}
use Prim.Native.Nat.{ℕ, ◌+◌, ◌*◌}
use Rattle.clock.specs.declared.Tick.{Tick}
use Rattle.network.specs.Network.{n}
use Rattle.schedule.specs.declared.Schedule.{Schedule}
use Rattle.engine.specs.declared.Outcome.{Outcome}
use Rattle.engine.specs.declared.Station.{Station}
use Rattle.engine.specs.declared.World.{World}
use Rattle.engine.specs.Turns.{in_turn}
use Rattle.engine.specs.Run.{tick_one, tick_all, arrive_one, start_one, play, opening, world, outcome, outcome_at}
use Rattle.engine.specs.Inside.{world_of}
use Rattle.engine.proofs.Turns.{turn}

module _ (s : Schedule) (t : ℕ) (w : World) (now : w ≡ world s t) (l : List Station) (ticks : l ≡ in_turn (n s.plan) (tick_one s (record { 0 = t })) w.stations) where
  abbrev i : Tick
  i = record { 0 = t }

  -- once all hosts have ticked
  abbrev v : World
  v = world_of l w.post w.refusals

  pub played : (r : World) → r ≡ in_turn s.start_count (start_one s i) (in_turn (24 * s.start_count) (arrive_one s i) v) → r ≡ world s (t + 1)
  unfolding play
  played r e =
      let all : v ≡ tick_all s i w = cc ticks in
      turn (play s) t (opening s) w r now (e ∙ ap (λ (x : World). in_turn s.start_count (start_one s i) (in_turn (24 * s.start_count) (arrive_one s i) x)) all)

pub left : (s : Schedule) (w : World) (o : Outcome) → w ≡ world s (s.end.0 + 1) → o ≡ outcome_at s w → o ≡ outcome s
unfolding outcome
left s w o e h = h ∙ ap (outcome_at s) e
