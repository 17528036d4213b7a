-- Notions that only contracts cite beside the definitions. Assumes nothing.
use Rattle.std.specs.Prelude.{◌≡◌, List, [], ℕ, ◌+◌, ◌≤◌, ◌<◌, length, get_or}
use Rattle.network.specs.Network.{n, m, link, plan_refusal}
use Rattle.clock.specs.declared.Reading.{Reading}
use Rattle.clock.specs.declared.Tick.{Tick}
use Rattle.host.specs.State.{with, Sized}
use Rattle.host.specs.Tick.{due_of, tick_refusal}
use Rattle.host.specs.declared.Host.{Host}
use Rattle.schedule.specs.declared.Schedule.{Schedule}
use Rattle.engine.specs.declared.Outcome.{Outcome}
use Rattle.engine.specs.declared.Post.{Post}
use Rattle.engine.specs.declared.Station.{Station}
use Rattle.engine.specs.declared.World.{World}
use Rattle.engine.specs.Parts.{no_log, list_of, log_of, start}

-- an outcome's numbers stay within its places
pub record InPlaces (o : Outcome) : Type 0 where
  pub hosts : o.hosts ≤ 8
  pub starts : o.starts ≤ 16
  pub logs : (p : ℕ) → p < 8 → (get_or o.logs p no_log).count ≤ 16

-- a schedule whose numbers are those that can be played
pub record Playable (s : Schedule) : Type 0 where
  pub planned : plan_refusal s.plan ≡ 0
  pub ends : (i : ℕ) → ((link s.plan i).a < 8) × ((link s.plan i).b < 8)
  pub offsets : (p : ℕ) → p < n s.plan → get_or s.offsets p 0 < 64
  pub n_some : 0 < n s.plan
  pub n_most : n s.plan ≤ 8
  pub m_most : m s.plan ≤ 12
  pub few : s.start_count ≤ 16
  pub hosts : (k : ℕ) → (start s k).host < 8
  pub ticks : (k : ℕ) → (start s k).tick.0 ≤ 4096
  pub end : s.end.0 ≤ 4096

-- what stands for the copies: the ticks at which they arrive, and how many were sent
abbrev pub post_of : List Tick → ℕ → Post
post_of arrivals copies = record { arrivals = arrivals; copies = copies }

-- a run's parts as a world
abbrev pub world_of : List Station → Post → List ℕ → World
world_of stations post refusals = record { stations = stations; post = post; refusals = refusals }

-- a station after a call of its host
abbrev pub with_host : Station → Host → Station
with_host a h = record { host = h; log = a.log }

-- a station whose host is another's, under a number of its own
abbrev pub fresh_station : Host → ℕ → Station
fresh_station h p =
    record {
      log = log_of [];
      host =
          record {
            plan = h.plan;
            rules = h.rules;
            d = h.d;
            bound = h.bound;
            own = p;
            last = h.last;
            started = h.started;
            starts = h.starts;
            held = h.held;
            history = h.history;
          };
    }

-- a station at a later reading, all else as it was
abbrev pub later_at : Reading → Station → Station
later_at u p = record { host = with p.host u p.host.starts p.host.started p.host.history p.host.held; log = p.log }

-- a station whose host takes a tick at a reading, and whose log has room for what is due
pub record Room (p : Station) (u : Reading) : Type 0 where
  pub sized : Sized p.host
  pub taken : tick_refusal p.host u.0 512 ≡ 0
  pub log : p.log ≡ log_of (list_of p.log)
  pub room : p.log.count + length (due_of p.host u.0) ≤ 16
