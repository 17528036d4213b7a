-- How many copies a run can have sent. Assumes nothing.
use mathlib.Core.Path.{◌≡◌, ap}
use mathlib.Core.Bool.{Bool, true, false, cond}
use mathlib.Core.List.{List}
use Prim.Native.Nat.{ℕ, ◌+◌, ◌*◌, ◌≤◌}
use native.Mathlib.Omega.{arith}
use lib.Dec.{eqb}
use Rattle.clock.specs.declared.Tick.{Tick}
use Rattle.orders.specs.declared.Order.{Order}
use Rattle.network.specs.Network.{m, has}
use Rattle.schedule.specs.declared.Schedule.{Schedule}
use Rattle.engine.specs.declared.Post.{Post}
use Rattle.engine.specs.declared.Station.{Station}
use Rattle.engine.specs.declared.World.{World}
use Rattle.engine.specs.Turns.{in_turn}
use Rattle.engine.specs.Parts.{copy_from, start_of, receiver, start}
use Rattle.engine.specs.Run.{sent, send_one, send, handed, hand, arrives, arrive_one, told, tell, start_one, tick_all, arrived, play, opening, world}
use Rattle.engine.specs.Inside.{Playable, world_of}
use Rattle.engine.proofs.Turns.{grows}

abbrev pub copies_of : World → ℕ
copies_of w = w.post.copies

at_most : {A : Type 0} (μ : A → ℕ) (k : ℕ) (a b : A) (t : Bool) → μ a ≤ μ b + k → μ (cond t a b) ≤ μ b + k
at_most μ k a b true h = h
at_most μ k a b false h = omega arith

module _ (s : Schedule) (z : Playable s) where
  send_most : (t : Tick) (k p links : ℕ) (post : Post) → (send s t k p links post).copies ≤ post.copies + 12
  send_most t k p links post =
      let all = grows (send_one s t k p links) (λ (q : Post). q.copies) 1 (m s.plan) post
      (λ l q. at_most (λ (q : Post). q.copies) 1 (sent s t (copy_from s.plan k p l) q) q (has links l) (omega arith)) in
      let few = z.m_most in
      omega arith

  arrive_most : (t : Tick) (c : ℕ) (w : World) → copies_of (arrive_one s t c w) ≤ copies_of w + 12
  arrive_most t c w = at_most copies_of 12 (hand s t c (receiver s.plan c) w) w (arrives t c w) (send_most t (start_of c) (receiver s.plan c) (handed s t c (receiver s.plan c) w).links w.post)

  start_most : (t : Tick) (k : ℕ) (w : World) → copies_of (start_one s t k w) ≤ copies_of w + 12
  start_most t k w =
      let p : ℕ = (start s k).host in
      let o : Order = (start s k).order in
      at_most copies_of 12 (tell s t k p o w) w (eqb (start s k).tick.0 t.0) (send_most t k p (told s t p o w).links w.post)

  arrive_grows : (t : Tick) (c : ℕ) (w : World) → copies_of (in_turn c (arrive_one s t) w) ≤ copies_of w + c * 12
  arrive_grows t c w = grows (arrive_one s t) copies_of 12 c w (arrive_most t)

  start_grows : (t : Tick) (k : ℕ) (w : World) → copies_of (in_turn k (start_one s t) w) ≤ copies_of w + k * 12
  start_grows t k w = grows (start_one s t) copies_of 12 k w (start_most t)

  play_most : (t : ℕ) (w : World) → copies_of (play s t w) ≤ copies_of w + 4800
  unfolding play
  play_most t w =
      let i : Tick = record { 0 = t } in
      let a = arrive_grows i (24 * s.start_count) (tick_all s i w) in
      let b = start_grows i s.start_count (arrived s i (24 * s.start_count) w) in
      let few = z.few in
      omega arith

  world_most : (t : ℕ) → copies_of (world s t) ≤ t * 4800
  unfolding opening
  world_most t = let all = grows (play s) copies_of 4800 t (opening s) play_most in omega arith

  -- within a tick, while copies arrive and then while orders are started
  pub arriving_few : (t c : ℕ) (l : List Station) (w v : World) → t ≤ 4096 → c ≤ 384 → w ≡ world s t
      → v ≡ in_turn c (arrive_one s (record { 0 = t })) (world_of l w.post w.refusals) → copies_of v ≤ 100_000_000
  arriving_few t c l w v soon few now e =
      let a = world_most t in
      let b = arrive_grows (record { 0 = t }) c (world_of l w.post w.refusals) in
      let before = ap copies_of now in
      let after = ap copies_of e in
      omega arith

  pub starting_few : (t : Tick) (k : ℕ) (w v : World) → k ≤ 16 → copies_of w ≤ 100_000_000 → v ≡ in_turn k (start_one s t) w → copies_of v ≤ 200_000_000
  starting_few t k w v few most e =
      let a = start_grows t k w in
      let after = ap copies_of e in
      omega arith
