-- The promise of each public function admits one result only: the answer, the memory that is left, and the lent list. Assumes nothing.
use mathlib.Core.Path.{◌≡◌}
use mathlib.Core.List.{List}
use Prim.Native.Nat.{ℕ}
use lib.ListN.{length}
use Rattle.lists.proofs.One.{one_result}
use Rattle.clock.specs.declared.Reading.{Reading}
use Rattle.orders.specs.declared.Order.{Order}
use Rattle.network.specs.Network.{planned}
use Rattle.host.specs.declared.Frame.{Frame}
use Rattle.host.specs.declared.Held.{Held}
use Rattle.host.specs.declared.Host.{Host}
use Rattle.host.specs.State.{frame_of}
use Rattle.host.specs.Make.{make_refusal}
use Rattle.host.specs.Answers.{Said}
use Rattle.host.specs.Calls.{Call, ticks}
use Rattle.host.specs.Tick.{tick_says, tick_list}
use Rattle.board.specs.Board.{board_refusal}
use Rattle.message.specs.declared.Message.{Message}
use Rattle.message.specs.Calls.{written, written_to}
use Rattle.report.specs.Calls.{reported, told}
use Rattle.report.specs.Calls as report
use Rattle.service.specs.declared.HeldMemory.{HeldMemory}
use Rattle.service.specs.declared.HostMemory.{HostMemory}
use Rattle.service.specs.declared.BoardMemory.{BoardMemory}
use Rattle.service.specs.declared.PlanMemory.{PlanMemory}
use Rattle.service.specs.Memory.{held_from, held_memory, host_from, host_memory, board_from}
use Rattle.service.specs.Calls.{pair_number, call_left, send_number, tick_number, make_left, order_left, plan_left, read_answer, read_left}

-- what is left, and the answer
both : {A B : Type 0} {left : A} {answer : B} {m o : A} {r s : B} → (m ≡ left) × (r ≡ answer) → (o ≡ left) × (s ≡ answer) → (m ≡ o) × (r ≡ s)
both x y = (one_result x.0 y.0, one_result x.1 y.1)

pub loom_plan_one : (f m o : PlanMemory) (r s : ℕ) → (m ≡ plan_left f) × (r ≡ (planned f.plan).refusal) → (o ≡ plan_left f) × (s ≡ (planned f.plan).refusal) → (m ≡ o) × (r ≡ s)
loom_plan_one f m o r s = both

pub loom_make_one : (f : HostMemory) (rules own : ℕ) (m o : HostMemory) (r s : ℕ)
    → (m ≡ make_left f rules own) × (r ≡ make_refusal f.plan rules own) → (o ≡ make_left f rules own) × (s ≡ make_refusal f.plan rules own) → (m ≡ o) × (r ≡ s)
loom_make_one f rules own m o r s = both

-- `loom_start` and `loom_receive`: the call, and what the host's own call says
pub loom_send_one : (f : HostMemory) (u : Reading) (c : Call) (said : Said) (m o : HostMemory) (r s : ℕ)
    → (m ≡ call_left f u c) × (r ≡ send_number said) → (o ≡ call_left f u c) × (s ≡ send_number said) → (m ≡ o) × (r ≡ s)
loom_send_one f u c said m o r s = both

pub loom_tick_one : (f : HostMemory) (u : Reading) (out : List ℕ) (m o : HostMemory) (r s : ℕ) (l k : List ℕ)
    → (m ≡ call_left f u (ticks (length out))) × ((r ≡ tick_number (tick_says (host_from f) u.0 (length out))) × (l ≡ tick_list (host_from f) u.0 out))
    → (o ≡ call_left f u (ticks (length out))) × ((s ≡ tick_number (tick_says (host_from f) u.0 (length out))) × (k ≡ tick_list (host_from f) u.0 out)) → (m ≡ o) × ((r ≡ s) × (l ≡ k))
loom_tick_one f u out m o r s l k x y = (one_result x.0 y.0, both x.1 y.1)

pub loom_apply_one : (f : BoardMemory) (order : Order) (m o : BoardMemory) (r s : ℕ)
    → (m ≡ order_left f order) × (r ≡ board_refusal (board_from f) order) → (o ≡ order_left f order) × (s ≡ board_refusal (board_from f) order) → (m ≡ o) × (r ≡ s)
loom_apply_one f order m o r s = both

pub loom_write_one : (rules : ℕ) (m : Message) (out : List ℕ) (r s : ℕ) (l k : List ℕ)
    → (r ≡ pair_number (written rules m (length out))) × (l ≡ written_to rules m out) → (s ≡ pair_number (written rules m (length out))) × (k ≡ written_to rules m out) → (r ≡ s) × (l ≡ k)
loom_write_one rules m out r s l k = both

pub loom_read_one : (rules : ℕ) (bs out : List ℕ) (r s : ℕ) (l k : List ℕ)
    → (r ≡ read_answer rules bs (length out)) × (l ≡ read_left rules bs out) → (s ≡ read_answer rules bs (length out)) × (k ≡ read_left rules bs out) → (r ≡ s) × (l ≡ k)
loom_read_one rules bs out r s l k = both

pub loom_replay_one : (bs out : List ℕ) (r s : ℕ) (l k : List ℕ)
    → (r ≡ pair_number (told (reported bs) out)) × (l ≡ report.left (reported bs) out) → (s ≡ pair_number (told (reported bs) out)) × (k ≡ report.left (reported bs) out) → (r ≡ s) × (l ≡ k)
loom_replay_one bs out r s l k = both

-- all but the history, as the host's calls take it
pub frame_from_one : (f : HostMemory) (r s : Frame) → r ≡ frame_of (host_from f) → s ≡ frame_of (host_from f) → r ≡ s
frame_from_one f r s = one_result

-- what stands in a place of the history, the place of an order, and the memory of a state
pub held_from_one : (e : HeldMemory) (r s : Held) → r ≡ held_from e → s ≡ held_from e → r ≡ s
held_from_one e r s = one_result

pub held_memory_one : (x : Held) (r s : HeldMemory) → r ≡ held_memory x → s ≡ held_memory x → r ≡ s
held_memory_one x r s = one_result

pub host_memory_one : (h : Host) (r s : HostMemory) → r ≡ host_memory h → s ≡ host_memory h → r ≡ s
host_memory_one h r s = one_result
