-- The parts of a run: logs, clocks, the orders that are started, and the copies of them (01, "Schedules and the replay program"). Assumes nothing.
use Rattle.std.specs.Prelude.{cond, List, [], ℕ, ◌+◌, ◌/◌, ◌%◌, eqb, length, take, get_or}
use Rattle.lists.specs.Lists.{pad}
use Rattle.clock.specs.Clock.{reading}
use Rattle.clock.specs.declared.Reading.{Reading}
use Rattle.clock.specs.declared.Tick.{Tick}
use Rattle.network.specs.Network.{link}
use Rattle.network.specs.declared.Plan.{Plan}
use Rattle.host.specs.State.{no_held}
use Rattle.host.specs.declared.Held.{Held}
use Rattle.schedule.specs.Schedule.{copy_of, no_start}
use Rattle.schedule.specs.declared.Start.{Start}
use Rattle.schedule.specs.declared.Schedule.{Schedule}
use Rattle.engine.specs.declared.Delivery.{Delivery}
use Rattle.engine.specs.declared.Log.{Log}
use Rattle.engine.specs.declared.Station.{Station}

-- ---- what a host has delivered, as a list and in its places

abbrev pub no_delivery : Delivery
no_delivery = record { at = record { 0 = 0 }; what = no_held }

abbrev pub list_of : Log → List Delivery
list_of l = take l.count l.entries

abbrev pub log_of : List Delivery → Log
log_of l = record { count = length l; entries = pad 16 no_delivery l }

-- what stands past the last log and the last station: nothing
abbrev pub no_log : Log
no_log = record { count = 0; entries = [] }

abbrev pub no_station : Station
no_station =
    record {
      host =
          record {
            plan = record { hosts = 0; faulty_hosts = 0; link_count = 0; faulty_links = 0; delay = 0; skew = 0; links = [] };
            rules = 0;
            d = 0;
            bound = 0;
            own = 0;
            last = record { 0 = 0 };
            started = 0;
            starts = [];
            held = 0;
            history = [];
          };
      log = no_log;
    }

-- ---- clocks and starts

abbrev pub no_tick : Tick
no_tick = record { 0 = 0 }

abbrev pub later : Tick → ℕ → Tick
later t k = record { 0 = t.0 + k }

-- "a reading is a real tick plus that host's offset"
abbrev pub clock : Schedule → Tick → ℕ → Reading
clock s t p = reading t (get_or s.offsets p 0)

abbrev pub start : Schedule → ℕ → Start
start s k = get_or s.starts k no_start

-- what start k starts, under its name: "T = U. The order is held under (T, own number)"
abbrev pub order : Schedule → ℕ → Held
order s k = record { stamp = clock s (start s k).tick (start s k).host; source = (start s k).host; order = (start s k).order }

-- ---- "by start, link, direction": a copy's place, and the parts of it; "direction 0 is a to b"

abbrev pub copy_from : Plan → ℕ → ℕ → ℕ → ℕ
copy_from p k sender l = copy_of k l (cond (eqb (link p l).a sender) 0 1)

abbrev pub start_of : ℕ → ℕ
start_of c = c / 24

abbrev pub link_of : ℕ → ℕ
link_of c = c % 24 / 2

abbrev pub receiver : Plan → ℕ → ℕ
receiver p c = cond (eqb (c % 2) 0) (link p (link_of c)).b (link p (link_of c)).a

abbrev pub sender : Plan → ℕ → ℕ
sender p c = cond (eqb (c % 2) 0) (link p (link_of c)).a (link p (link_of c)).b
