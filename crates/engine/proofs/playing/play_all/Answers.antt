-- At the head of the loop the world is that before tick t. Within: each host below p has ticked, and one to which nothing is due has only taken the
-- reading; then each copy below c that arrives is handed over; then each start below k that is at this tick is told to its host. Assumes nothing.
use mathlib.Core.Path.{◌≡◌, refl, sym, ap, ◌∙◌}
use Prim.Native.Nat.{ℕ, ◌+◌, ◌*◌}
use native.Mathlib.Omega.{arith}
use lib.Dec.{eqb}
use lib.ListN.{get_or, set}
use Rattle.network.specs.Network.{n}
use Rattle.clock.specs.declared.Reading.{Reading}
use Rattle.clock.specs.declared.Tick.{Tick}
use Rattle.engine.specs.declared.World.{World}
use Rattle.engine.specs.Turns.{in_turn}
use Rattle.engine.specs.Parts.{no_station, start, receiver}
use Rattle.engine.specs.Run.{ticked, tick_one, hand, arrives, arrive_one, tell, start_one, play, opening, world}
use Rattle.engine.specs.Inside.{world_of}
use Rattle.engine.proofs.Turns.{no_turn, turn, last_turn, turn_if, turn_else}
use Rattle.engine.proofs.Copies.{arriving_few, starting_few}
use Rattle.engine.proofs.Openings.{opens}
use Rattle.engine.proofs.Hands.{handed_over, told_to, of_parts}
use Rattle.engine.proofs.Lasts.{turn_room}
use Rattle.engine.proofs.Idle.{idle_ticked}
use Rattle.engine.proofs.Plays.{played, left}
use Rattle.engine.proofs.playing.play_all.Goals as goal
use Rattle.engine.proofs.playing.play_all.Goals.{then-is_idle, else-is_idle, then-is_now, else-is_now, then-is_now-2, else-is_now-2}

pub loop-t-init : goal.loop-t-init
loop-t-init c = let s = c.args.s.now in opens s _ c.open-stations.ensures ∙ no_turn (play s) (opening s)

pub loop-p-init : goal.loop-p-init
loop-p-init c = let l = c.loop-t in no_turn (tick_one c.args.s.now (record { 0 = l.t })) l.stations

pub tick_one-requires : goal.tick_one-requires
tick_one-requires c = let a = c.args in
    let z = c.requires in
    let l = c.loop-t in
    let h = c.loop-p in
    let end = z.end in
    turn_room a.s.now z l.t h.p (world_of l.stations l.post l.refusals) h.stations _ (omega arith) (omega arith) l.invariant h.invariant c.clock_of-u.ensures

pub loop-p-preserved : goal.loop-p-preserved
loop-p-preserved c = let s = c.args.s.now in
    let z = c.requires in
    let l = c.loop-t in
    let h = c.loop-p in
    let end = z.end in
    let u = c.clock_of-u.ensures in
    let room = turn_room s z l.t h.p (world_of l.stations l.post l.refusals) h.stations _ (omega arith) (omega arith) l.invariant h.invariant u in
    let shown = ap (λ (v : Reading). ticked v (get_or h.stations h.p no_station)) u in
    turn (tick_one s (record { 0 = l.t })) h.p l.stations h.stations _ h.invariant
    (elim c.if-is_idle.branch [
      | then-is_idle x ↦ x.stations-is ∙ ap (set h.stations h.p) (x.be_at.ensures ∙ idle_ticked _ _ room (sym c.is_idle.ensures ∙ x.if-is_idle.true) ∙ shown)
      | else-is_idle x ↦ x.stations-is ∙ ap (set h.stations h.p) (x.tick_one.ensures ∙ shown)
    ])

pub loop-c-init : goal.loop-c-init
loop-c-init c = let l = c.loop-t in
    let h = c.loop-p in
    no_turn (arrive_one c.args.s.now (record { 0 = l.t })) (world_of h.stations l.post l.refusals)

pub send_all-requires : goal.send_all-requires
send_all-requires c = let a = c.args in
    let z = c.requires in
    let l = c.loop-t in
    let h = c.loop-p in
    let g = c.loop-c in
    let few = z.few in
    let end = z.end in
    let count = arriving_few a.s.now z l.t g.c h.stations (world_of l.stations l.post l.refusals) (world_of g.stations g.post l.refusals) (omega arith) (omega arith) l.invariant g.invariant in
    (z.m_most, omega arith, omega arith, omega arith)

pub loop-c-preserved : goal.loop-c-preserved
loop-c-preserved c = let s = c.args.s.now in
    let l = c.loop-t in
    let h = c.loop-p in
    let g = c.loop-c in
    let now : Tick = record { 0 = l.t } in
    let w : World = world_of g.stations g.post l.refusals in
    let first : World = world_of h.stations l.post l.refusals in
    elim c.if-is_now.branch [
      | then-is_now x ↦
          of_parts _ _ _ _ _ _ x.stations-is x.post-is refl
          ∙ turn_if (λ (i : ℕ) (v : World). arrives now i v) (λ (i : ℕ) (v : World). hand s now i (receiver s.plan i) v) g.c first w _ g.invariant (sym c.is_now.ensures ∙ x.if-is_now.true)
          (handed_over s now w x.hand-answer.result x.hand-answer.new.station x.send_all.new.post g.c x.receiver_of-q.result x.receiver_of-q.ensures.0 x.hand-answer.ensures.left x.hand-answer.ensures.answer x.send_all.ensures)
      | else-is_now x ↦
          of_parts _ _ _ _ _ _ x.stations-is x.post-is refl
          ∙ turn_else (λ (i : ℕ) (v : World). arrives now i v) (λ (i : ℕ) (v : World). hand s now i (receiver s.plan i) v) g.c first w g.invariant (sym c.is_now.ensures ∙ x.if-is_now.false)
    ]

pub loop-k-init : goal.loop-k-init
loop-k-init c = let l = c.loop-t in
    let g = c.loop-c in
    no_turn (start_one c.args.s.now (record { 0 = l.t })) (world_of g.stations g.post l.refusals)

pub send_all-requires-then-is_now-2 : goal.send_all-requires-then-is_now-2
send_all-requires-then-is_now-2 c = let a = c.args in
    let z = c.requires in
    let l = c.loop-t in
    let h = c.loop-p in
    let g = c.loop-c in
    let k = c.loop-k in
    let few = z.few in
    let end = z.end in
    let count = arriving_few a.s.now z l.t g.c h.stations (world_of l.stations l.post l.refusals) (world_of g.stations g.post l.refusals) (omega arith) (omega arith) l.invariant g.invariant in
    let all = starting_few a.s.now z (record { 0 = l.t }) k.k (world_of g.stations g.post l.refusals) (world_of k.stations k.post k.refusals) (omega arith) count k.invariant in
    (z.m_most, omega arith, omega arith, omega arith)

pub loop-k-preserved : goal.loop-k-preserved
loop-k-preserved c = let s = c.args.s.now in
    let l = c.loop-t in
    let g = c.loop-c in
    let k = c.loop-k in
    let now : Tick = record { 0 = l.t } in
    let w : World = world_of k.stations k.post k.refusals in
    let first : World = world_of g.stations g.post l.refusals in
    elim c.if-is_now-2.branch [
      | then-is_now-2 x ↦
          of_parts _ _ _ _ _ _ x.stations-is x.post-is x.refusals-is
          ∙ turn_if (λ (i : ℕ) (v : World). eqb (start s i).tick.0 l.t) (λ (i : ℕ) (v : World). tell s now i (start s i).host (start s i).order v) k.k first w _ k.invariant (sym c.is_now-in-loop-k.ensures ∙ x.if-is_now-2.true)
          (told_to s now w x.tell-answer.result x.tell-answer.new.station x.send_all-then-is_now-2.new.post k.k (start s k.k).host x.refusal_of.result (start s k.k).order x.tell-answer.ensures.left x.tell-answer.ensures.answer x.refusal_of.ensures x.send_all-then-is_now-2.ensures)
      | else-is_now-2 x ↦
          of_parts _ _ _ _ _ _ x.stations-is x.post-is x.refusals-is
          ∙ turn_else (λ (i : ℕ) (v : World). eqb (start s i).tick.0 l.t) (λ (i : ℕ) (v : World). tell s now i (start s i).host (start s i).order v) k.k first w k.invariant (sym c.is_now-in-loop-k.ensures ∙ x.if-is_now-2.false)
    ]

pub loop-t-preserved : goal.loop-t-preserved
loop-t-preserved c = let s = c.args.s.now in
    let l = c.loop-t in
    let h = c.loop-p in
    let g = c.loop-c in
    let k = c.loop-k in
    let now : Tick = record { 0 = l.t } in
    let ticks = last_turn (tick_one s now) h.p (n s.plan) l.stations h.stations (omega arith) (omega arith) h.invariant in
    let copies = last_turn (arrive_one s now) g.c (24 * s.start_count) (world_of h.stations l.post l.refusals) (world_of g.stations g.post l.refusals) (omega arith) (omega arith) g.invariant in
    let starts = last_turn (start_one s now) k.k s.start_count (world_of g.stations g.post l.refusals) (world_of k.stations k.post k.refusals) (omega arith) (omega arith) k.invariant in
    played s l.t (world_of l.stations l.post l.refusals) l.invariant _ ticks _ (starts ∙ ap (in_turn s.start_count (start_one s now)) copies)

pub returns : goal.returns
returns c = let s = c.args.s.now in
    let l = c.loop-t in
    let end : l.t ≡ s.end.0 + 1 = omega arith in
    left s (world_of l.stations l.post l.refusals) _ (l.invariant ∙ ap (world s) end) c.outcome_of.ensures
