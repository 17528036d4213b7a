-- The run of a schedule (01, "Schedules and the replay program"), by the host's own calls under the first rules. Assumes nothing.
use Rattle.std.specs.Prelude.{Bool, cond, ◌&&◌, List, [], ◌++◌, map, ℕ, ◌+◌, ◌*◌, ltb, eqb, get_or, set, replicate}
use Rattle.lists.specs.Lists.{listed}
use Rattle.clock.specs.declared.Reading.{Reading}
use Rattle.clock.specs.declared.Tick.{Tick}
use Rattle.orders.specs.declared.Order.{Order}
use Rattle.network.specs.Network.{n, m, has}
use Rattle.host.specs.Answers.{Said, unless}
use Rattle.host.specs.Make.{fresh}
use Rattle.host.specs.Start.{start_says, start_host}
use Rattle.host.specs.Receive.{receive_says, receive_host}
use Rattle.host.specs.Tick.{due_of, tick_refusal, tick_host}
use Rattle.host.specs.declared.Held.{Held}
use Rattle.host.specs.declared.Host.{Host}
use Rattle.schedule.specs.declared.Schedule.{Schedule}
use Rattle.engine.specs.declared.Delivery.{Delivery}
use Rattle.engine.specs.declared.Outcome.{Outcome}
use Rattle.engine.specs.declared.Station.{Station}
use Rattle.engine.specs.declared.Post.{Post}
use Rattle.engine.specs.declared.World.{World}
use Rattle.engine.specs.Turns.{in_turn}
use Rattle.engine.specs.Parts.{list_of, log_of, no_station, no_tick, later, clock, start, order, copy_from, start_of, link_of, receiver}

-- ---- "all hosts tick, in rising number"

-- what is due, where the tick is not refused; the list lent to it has room for a whole history
abbrev pub delivered : Host → Reading → List Held
delivered h u = unless (tick_refusal h u.0 512) (due_of h u.0) []

abbrev pub delivery : Reading → Held → Delivery
delivery u x = record { at = u; what = x }

abbrev pub ticked : Reading → Station → Station
ticked u p = record { host = tick_host p.host u 512; log = log_of (list_of p.log ++ map (delivery u) (delivered p.host u)) }

abbrev pub tick_one : Schedule → Tick → ℕ → List Station → List Station
tick_one s t p l = set l p (ticked (clock s t p) (get_or l p no_station))

abbrev pub tick_all : Schedule → Tick → World → World
tick_all s t w = record { stations = in_turn (n s.plan) (tick_one s t) w.stations; post = w.post; refusals = w.refusals }

-- ---- sending: "Copies sent are counted, lost ones too"; "delay 0 is lost"

abbrev pub delay : Schedule → ℕ → ℕ
delay s c = get_or s.delays c 0

abbrev pub sent : Schedule → Tick → ℕ → Post → Post
sent s t c post =
    record {
      arrivals = cond (eqb (delay s c) 0) post.arrivals (set post.arrivals c (later t (delay s c)));
      copies = post.copies + 1;
    }

abbrev pub send_one : Schedule → Tick → ℕ → ℕ → ℕ → ℕ → Post → Post
send_one s t k p links l post = cond (has links l) (sent s t (copy_from s.plan k p l) post) post

-- the copies of start k that host p sends on a set of links
abbrev pub send : Schedule → Tick → ℕ → ℕ → ℕ → Post → Post
send s t k p links post = in_turn (m s.plan) (send_one s t k p links) post

-- ---- "then copies arrive, by start, link, direction"

abbrev pub station : World → ℕ → Station
station w p = get_or w.stations p no_station

-- the stations, with another state of host p
abbrev pub become : World → ℕ → Host → List Station
become w p h = set w.stations p (record { host = h; log = (station w p).log })

abbrev pub handed : Schedule → Tick → ℕ → ℕ → World → Said
handed s t c q w = receive_says (station w q).host (clock s t q).0 (link_of c) 0 (order s (start_of c))

abbrev pub hand : Schedule → Tick → ℕ → ℕ → World → World
hand s t c q w =
    record {
      stations = become w q (receive_host (station w q).host (clock s t q) (link_of c) 0 (order s (start_of c)));
      post = send s t (start_of c) q (handed s t c q w).links w.post;
      refusals = w.refusals;
    }

-- the copy at place c arrives at this tick; none arrives at tick 0, which stands for none under way
abbrev pub arrives : Tick → ℕ → World → Bool
arrives t c w = ltb 0 t.0 && eqb (get_or w.post.arrivals c no_tick).0 t.0

abbrev pub arrive_one : Schedule → Tick → ℕ → World → World
arrive_one s t c w = cond (arrives t c w) (hand s t c (receiver s.plan c) w) w

-- ---- "then starts"

abbrev pub told : Schedule → Tick → ℕ → Order → World → Said
told s t p o w = start_says (station w p).host (clock s t p).0 o

abbrev pub tell : Schedule → Tick → ℕ → ℕ → Order → World → World
tell s t k p o w =
    record {
      stations = become w p (start_host (station w p).host (clock s t p) o);
      post = send s t k p (told s t p o w).links w.post;
      refusals = set w.refusals k (told s t p o w).refusal;
    }

abbrev pub start_one : Schedule → Tick → ℕ → World → World
start_one s t k w = cond (eqb (start s k).tick.0 t.0) (tell s t k (start s k).host (start s k).order w) w

-- ---- "At each tick, from 0 up to and including the end"

-- after the ticks and the first c copies, and then after the first k starts, of tick t
abbrev pub arrived : Schedule → Tick → ℕ → World → World
arrived s t c w = in_turn c (arrive_one s t) (tick_all s t w)

abbrev pub started : Schedule → Tick → ℕ → World → World
started s t k w = in_turn k (start_one s t) (arrived s t (24 * s.start_count) w)

unfoldable pub play : Schedule → ℕ → World → World
play s t w = started s (record { 0 = t }) s.start_count w

-- "A fresh state has no starts, an empty history and last reading 0"
unfoldable pub opening : Schedule → World
opening s =
    record {
      stations = listed 8 (λ p. record { host = fresh s.plan 1 p; log = log_of [] });
      post = record { arrivals = replicate 384 no_tick; copies = 0 };
      refusals = replicate 16 0;
    }

-- before tick t
abbrev pub world : Schedule → ℕ → World
world s t = in_turn t (play s) (opening s)

-- ---- what a run leaves

abbrev pub outcome_at : Schedule → World → Outcome
outcome_at s w =
    record {
      bound = s.bounds.first.bound;
      hosts = n s.plan;
      starts = s.start_count;
      refusals = w.refusals;
      logs = listed 8 (λ p. (station w p).log);
      copies = w.post.copies;
    }

unfoldable pub outcome : Schedule → Outcome
outcome s = outcome_at s (world s (s.end.0 + 1))
