-- The three calls at a reading as one. Assumes nothing.
use Rattle.std.specs.Prelude.{ℕ}
use Rattle.clock.specs.declared.Reading.{Reading}
use Rattle.orders.specs.declared.Order.{Order}
use Rattle.host.specs.declared.Held.{Held}
use Rattle.host.specs.declared.Host.{Host}
use Rattle.host.specs.Answers.{unless}
use Rattle.host.specs.Start.{start_refusal, after_start}
use Rattle.host.specs.Receive.{receive_refusal, after_receive}
use Rattle.host.specs.Tick.{tick_refusal, after_tick}

-- an order to start; a link, a hop and a copy to receive; the length of the list lent to a tick
pub data Call : Type 0 where
  start : Order → Call
  receive : ℕ → ℕ → Held → Call
  ticks : ℕ → Call

abbrev pub refusal : Host → ℕ → Call → ℕ
refusal h u (start o) = start_refusal h u o
refusal h u (receive arrival hop x) = receive_refusal h u arrival hop x
refusal h u (ticks room) = tick_refusal h u room

-- the state after an accepted call, and after any call
abbrev pub becomes : Host → Reading → Call → Host
becomes h u (start o) = after_start h u o
becomes h u (receive arrival hop x) = after_receive h u x
becomes h u (ticks room) = after_tick h u

abbrev pub after : Host → Reading → Call → Host
after h u c = unless (refusal h u.0 c) (becomes h u c) h
