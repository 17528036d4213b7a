-- What each exported call answers and leaves: what the host's, the board's and the message's own definitions say of what the memory stands for. Assumes nothing.
use Rattle.std.specs.Prelude.{cond, List, [], ◌∷◌, ◌++◌, ℕ, ◌+◌, ◌*◌, ltb, eqb, length, drop}
use Rattle.clock.specs.declared.Reading.{Reading}
use Rattle.orders.specs.Orders.{kind_of, image_of, share_of}
use Rattle.network.specs.Network.{planned}
use Rattle.host.specs.Answers.{unless}
use Rattle.host.specs.Answers as host
use Rattle.host.specs.Make.{make_refusal, fresh}
use Rattle.host.specs.Calls.{Call, refusal, becomes}
use Rattle.board.specs.Board.{board_refusal, board_after}
use Rattle.message.specs.Calls.{read_of}
use Rattle.message.specs.declared.Found.{Found}
use Rattle.orders.specs.declared.Order.{Order}
use Rattle.service.specs.declared.HostMemory.{HostMemory}
use Rattle.service.specs.declared.BoardMemory.{BoardMemory}
use Rattle.service.specs.declared.PlanMemory.{PlanMemory}
use Rattle.service.specs.Memory.{host_from, host_memory, board_from, board_memory}

-- ---- answers, each one number: the refusal in its low byte, and above it what else the call answers

abbrev pub pair_number : ℕ × ℕ → ℕ
pair_number p = p.0 + 256 * p.1

-- the hop in the byte above, and the links above that
abbrev pub send_number : host.Said → ℕ
send_number s = s.refusal + (256 * s.hop + 65536 * s.links)

abbrev pub tick_number : host.SaidTick → ℕ
tick_number s = pair_number (s.refusal, s.count)

-- ---- a host: a refused call leaves the memory as it was

abbrev pub call_left : HostMemory → Reading → Call → HostMemory
call_left f u c = unless (refusal (host_from f) u.0 c) (host_memory (becomes (host_from f) u c)) f

-- the plan is taken from the memory
abbrev pub make_left : HostMemory → ℕ → ℕ → HostMemory
make_left f rules own = unless (make_refusal f.plan rules own) (host_memory (fresh f.plan rules own)) f

-- ---- a board

abbrev pub order_left : BoardMemory → Order → BoardMemory
order_left f o = unless (board_refusal (board_from f) o) (board_memory (board_after (board_from f) o)) f

-- ---- planning: d and each rule set's bound and window are written beside the plan

abbrev pub plan_left : PlanMemory → PlanMemory
plan_left f =
    unless (planned f.plan).refusal
    (record { first = (planned f.plan).bounds.first; second = (planned f.plan).bounds.second; plan = f.plan; d = (planned f.plan).bounds.d }) f

-- ---- reading a message: eight numbers, from the first of the lent ones on

abbrev pub numbers_of : Found → List ℕ
numbers_of f =
    f.message.stamp.0
    ∷ f.message.source
    ∷ f.message.hop
    ∷ kind_of f.message.order
    ∷ image_of f.message.order
    ∷ share_of f.message.order
    ∷ f.start
    ∷ f.size
    ∷ []

-- 22 comes last
abbrev pub read_answer : ℕ → List ℕ → ℕ → ℕ
read_answer rules bs room = cond (eqb (read_of rules bs).0 0) (cond (ltb room 8) 22 0) (read_of rules bs).0

abbrev pub read_left : ℕ → List ℕ → List ℕ → List ℕ
read_left rules bs out = unless (read_answer rules bs (length out)) (numbers_of (read_of rules bs).1 ++ drop 8 out) out
