-- A run as data, and the one that 01 gives under "Case". Assumes nothing.
use Rattle.std.specs.Prelude.{cond, ◌&&◌, List, [], ◌∷◌, ℕ, eqb, length, get_or}
use Rattle.lists.specs.Lists.{pad}
use Rattle.orders.specs.declared.Order.{Order}
use Rattle.orders.specs.declared.Order.TheVariants.{Halt}
use Rattle.network.specs.declared.Link.{Link}
use Rattle.network.specs.declared.Plan.{Plan}
use Rattle.network.specs.declared.Faults.{Faults}
use Rattle.network.specs.Network.{no_link}
use Rattle.board.specs.Board.{holding}
use Rattle.board.specs.declared.Stand.{Stand}
use Rattle.board.specs.declared.Board.{Board}
use Rattle.diffusion.specs.Hosts.{Carried, Call, start, receive}
use Rattle.diffusion.specs.Run.{Story}

-- a call of host `host` at tick `tick`
pub record Event : Type 0 where
  pub host : ℕ
  pub tick : ℕ
  pub call : Call

-- the calls of a host at a tick, in the order of the list
abbrev pub calls_of : List Event → ℕ → ℕ → List Call
calls_of [] p t = []
calls_of (e ∷ l) p t = cond (eqb e.host p && eqb e.tick t) (e.call ∷ calls_of l p t) (calls_of l p t)

-- a run by its offsets, its last tick, its faulty hosts and links and its calls, with room for a whole history lent at each tick
abbrev pub story : List ℕ → ℕ → Faults → List Event → Story
story offsets end faults events =
    record { offset = λ p. get_or offsets p 0; calls = calls_of events; room = λ p t. 512; end = end; faults = faults }

-- these hosts and links are faulty, each set as one number
abbrev pub faulty : ℕ → ℕ → Faults
faulty hosts links = record { hosts = hosts; links = links }

-- host p is told to start an order; host q is handed, over link k, the copy of one that host 0 started at reading T
abbrev pub told : ℕ → ℕ → Order → Event
told p t o = record { host = p; tick = t; call = start o }

abbrev pub begun : ℕ → Order → Carried
begun T o = record { stamp = T; source = 0; order = o }

abbrev pub handed : ℕ → ℕ → ℕ → Carried → Event
handed q t k x = record { host = q; tick = t; call = receive k (record { what = x; hop = 0 }) }

-- ---- networks

abbrev pair : ℕ → ℕ → Link
pair a b = record { a = a; b = b }

-- a plan of n hosts with these links
abbrev network : ℕ → ℕ → ℕ → ℕ → ℕ → List Link → Plan
network n π L δ ε links =
    record {
      hosts = n;
      faulty_hosts = π;
      link_count = length links;
      faulty_links = L;
      delay = δ;
      skew = ε;
      links = pad 12 no_link links;
    }

abbrev pub two_hosts : ℕ → Plan
two_hosts L = network 2 0 L 1 3 (pair 0 1 ∷ [])

abbrev pub triangle : ℕ → ℕ → ℕ → ℕ → Plan
triangle π L δ ε = network 3 π L δ ε (pair 0 1 ∷ pair 0 2 ∷ pair 1 2 ∷ [])

-- four hosts, each joined to each
abbrev pub complete : ℕ → ℕ → Plan
complete π δ = network 4 π 0 δ 3 (pair 0 1 ∷ pair 0 2 ∷ pair 0 3 ∷ pair 1 2 ∷ pair 1 3 ∷ pair 2 3 ∷ [])

-- ---- "Case: triangle, links 0-1, 0-2, 1-2, π 1, L 0, δ 10, ε 3, host 0 faulty, offsets 0 0 2, end 40, start at tick 5 on host 0: halt 7; fates
-- 0,0,0,10; 0,1,0,0; 0,2,0,10"

abbrev pub case_plan : Plan
case_plan = triangle 1 0 10 3

abbrev pub halt : Carried
halt = begun 5 (Halt 7)

-- the copy to host 2 is lost; host 1's relay reaches it, and its own relay reaches host 0, "A copy without a fate takes 1 tick"
abbrev pub case_story : Story
case_story = story (0 ∷ 0 ∷ 2 ∷ []) 40 (faulty 1 0) (told 0 5 (Halt 7) ∷ handed 1 15 0 halt ∷ handed 2 25 2 halt ∷ handed 0 26 1 halt ∷ [])

-- a board that has image 7 alone
abbrev pub seven : Stand → Board
seven stand = holding (record { image = 7; stand = stand } ∷ [])
