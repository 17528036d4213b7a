-- Which refusals a call can give, and what each says of the state and the call: the tests before its own failed, and its own passed.
-- Assumes nothing.
use mathlib.Core.Path.{◌≡◌, refl}
use mathlib.Core.List.{[], ◌∷◌}
use Prim.Native.Nat.{ℕ}
use Rattle.lists.specs.Members.{In}
use Rattle.lists.proofs.TestLaws.{Found, found, first_among}
use Rattle.orders.specs.declared.Order.{Order}
use Rattle.network.specs.Network.{plan_tests}
use Rattle.network.specs.declared.Plan.{Plan}
use Rattle.host.specs.declared.Held.{Held}
use Rattle.host.specs.declared.Host.{Host}
use Rattle.host.specs.Make.{make_tests, make_refusal}
use Rattle.host.specs.Start.{start_tests, start_refusal}
use Rattle.host.specs.Receive.{receive_tests, receive_refusal}
use Rattle.host.specs.Tick.{tick_tests, tick_refusal}

pub make_refusals : (p : Plan) (rules own : ℕ) → In (make_refusal p rules own) (0 ∷ 1 ∷ 2 ∷ 3 ∷ 23 ∷ 15 ∷ [])
unfolding make_tests plan_tests
make_refusals p rules own = first_among (make_tests p rules own)

pub start_refusals : (h : Host) (u : ℕ) (o : Order) → In (start_refusal h u o) (0 ∷ 9 ∷ 23 ∷ 10 ∷ 11 ∷ 12 ∷ 13 ∷ 14 ∷ [])
unfolding start_tests
start_refusals h u o = first_among (start_tests h u o)

pub receive_refusals : (h : Host) (u arrival hop : ℕ) (x : Held) → In (receive_refusal h u arrival hop x) (0 ∷ 9 ∷ 15 ∷ 23 ∷ 10 ∷ 11 ∷ 16 ∷ 17 ∷ 18 ∷ 19 ∷ 20 ∷ 21 ∷ 14 ∷ [])
unfolding receive_tests
receive_refusals h u arrival hop x = first_among (receive_tests h u arrival hop x)

pub tick_refusals : (h : Host) (u room : ℕ) → In (tick_refusal h u room) (0 ∷ 9 ∷ 10 ∷ 11 ∷ 22 ∷ [])
unfolding tick_tests
tick_refusals h u room = first_among (tick_tests h u room)

-- ---- where the refusal is k

pub make_found : (p : Plan) (rules own k : ℕ) → make_refusal p rules own ≡ k → Found k (make_tests p rules own)
unfolding make_tests plan_tests
make_found p rules own k e = found (make_tests p rules own) k refl e

pub start_found : (h : Host) (u : ℕ) (o : Order) (k : ℕ) → start_refusal h u o ≡ k → Found k (start_tests h u o)
unfolding start_tests
start_found h u o k e = found (start_tests h u o) k refl e

pub receive_found : (h : Host) (u arrival hop : ℕ) (x : Held) (k : ℕ) → receive_refusal h u arrival hop x ≡ k → Found k (receive_tests h u arrival hop x)
unfolding receive_tests
receive_found h u arrival hop x k e = found (receive_tests h u arrival hop x) k refl e

pub tick_found : (h : Host) (u room k : ℕ) → tick_refusal h u room ≡ k → Found k (tick_tests h u room)
unfolding tick_tests
tick_found h u room k e = found (tick_tests h u room) k refl e
