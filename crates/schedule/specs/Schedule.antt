-- The schedule that stands in the records (01, "Schedules and the replay program"). Assumes nothing.
use Rattle.std.specs.Prelude.{List, ℕ, ◌+◌, ◌-◌, ◌*◌, eqb, get_or}
use Rattle.lists.specs.Bytes.{val_at}
use Rattle.lists.specs.Lists.{pad, listed}
use Rattle.lists.specs.Searches.{last_of}
use Rattle.clock.specs.declared.Tick.{Tick}
use Rattle.orders.specs.Orders.{order_at}
use Rattle.orders.specs.declared.Order.TheVariants.{Publish}
use Rattle.network.specs.Network.{no_link, worst, bounds}
use Rattle.network.specs.declared.Link.{Link}
use Rattle.network.specs.declared.Plan.{Plan}
use Rattle.network.specs.declared.Faults.{Faults}
use Rattle.schedule.specs.declared.Start.{Start}
use Rattle.schedule.specs.declared.Schedule.{Schedule}
use Rattle.schedule.specs.Shape.{place, records, links, starts, hosts, value}

-- ---- the plan: record 0, and the links from record 1 on

-- "17 one per link (a, b)"
abbrev pub link_at : List ℕ → ℕ → Link
link_at bs at = record { a = get_or bs at 0; b = get_or bs (at + 1) 0 }

abbrev pub links_of : List ℕ → ℕ → List Link
links_of bs m = pad 12 no_link (listed m (λ i. link_at bs (value bs (1 + i))))

-- "16 plan (n, π, L, δ, ε, one byte each)"
unfoldable pub plan_of : List ℕ → Plan
plan_of bs =
    record {
      hosts = hosts bs;
      faulty_hosts = get_or bs 4 0;
      link_count = links bs;
      faulty_links = get_or bs 5 0;
      delay = get_or bs 6 0;
      skew = get_or bs 7 0;
      links = links_of bs (links bs);
    }

-- ---- the records after the links

-- "18 faulty hosts (1 byte, bit i for host i) and faulty links (2 bytes)"
abbrev pub faults_at : List ℕ → ℕ → Faults
faults_at bs at = record { hosts = get_or bs at 0; links = val_at bs (at + 1) 2 }

-- "19 offsets (n bytes)"
abbrev pub offsets_at : List ℕ → ℕ → ℕ → List ℕ
offsets_at bs at n = pad 8 0 (listed n (λ i. get_or bs (at + i) 0))

-- "20 end tick (2)", and a start's tick
abbrev pub tick_at : List ℕ → ℕ → Tick
tick_at bs at = record { 0 = val_at bs at 2 }

-- ---- "Links and starts count from 0"

-- "21 one per start (tick 2, host 1, order 5 or 6)"
abbrev pub start_at : List ℕ → ℕ → Start
start_at bs at = record { tick = tick_at bs at; host = get_or bs (at + 2) 0; order = order_at bs (at + 3) }

abbrev pub no_start : Start
no_start = record { tick = record { 0 = 0 }; host = 0; order = Publish 0 0 }

abbrev pub starts_of : List ℕ → ℕ → ℕ → List Start
starts_of bs first s = pad 16 no_start (listed s (λ i. start_at bs (value bs (first + i))))

-- "by start, link, direction": where a copy stands among those of 16 starts over 12 links in 2 directions
abbrev pub copy_of : ℕ → ℕ → ℕ → ℕ
copy_of start link direction = (start * 12 + link) * 2 + direction

-- "22 one per fate (start, link, direction, delay ..)": its copy, and its delay
abbrev pub copy_at : List ℕ → ℕ → ℕ
copy_at bs at = copy_of (get_or bs at 0) (get_or bs (at + 1) 0) (get_or bs (at + 2) 0)

-- "A copy without a fate takes 1 tick": the delay of each copy by the k fates from a record on
abbrev pub delay_of : List ℕ → ℕ → ℕ → ℕ → ℕ
delay_of bs first k copy = last_of k (λ i. eqb (copy_at bs (value bs (first + i))) copy) (λ i. get_or bs (place bs (first + i) + 6) 0) 1

abbrev pub delays_of : List ℕ → ℕ → ℕ → List ℕ
delays_of bs first k = listed 384 (delay_of bs first k)

-- ---- the whole

abbrev pub faults_of : List ℕ → Faults
faults_of bs = faults_at bs (value bs (links bs + 1))

abbrev pub end_of : List ℕ → Tick
end_of bs = tick_at bs (value bs (links bs + 3))

abbrev pub first_start : List ℕ → ℕ
first_start bs = links bs + 4

abbrev pub first_fate : List ℕ → ℕ
first_fate bs = links bs + starts bs + 4

unfoldable pub schedule_of : List ℕ → Schedule
schedule_of bs =
    record {
      plan = plan_of bs;
      bounds = bounds (plan_of bs) (worst (plan_of bs));
      faults = faults_of bs;
      offsets = offsets_at bs (value bs (links bs + 2)) (hosts bs);
      end = end_of bs;
      start_count = starts bs;
      starts = starts_of bs (first_start bs) (starts bs);
      delays = delays_of bs (first_fate bs) (records bs - first_fate bs);
    }
