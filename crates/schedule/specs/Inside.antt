-- Notions that only private contracts cite. Assumes nothing.
use Rattle.std.specs.Prelude.{◌≡◌, ◌+◌, ◌<◌, Option, None, Some, List, ℕ}
use Rattle.network.specs.Network.{plan_refusal, worst, bounds}
use Rattle.network.specs.declared.Plan.{Plan}
use Rattle.network.specs.declared.Bounds.{Bounds}
use Rattle.schedule.specs.Schedule.{plan_of}
use Rattle.schedule.specs.declared.record.Record.{Record}
use Rattle.schedule.specs.declared.walk.Walk.{Walk}

-- the plan of the bytes, which planning accepts
pub record Judged (bs : List ℕ) (p : Plan) (b : Bounds) : Type 0 where
  pub plan_is : p ≡ plan_of bs
  pub clear : plan_refusal p ≡ 0
  pub bounds_are : b ≡ bounds p (worst p)

-- the record that a walk gives, and its number there; or the walk is over
pub record Went (w : Walk) (x : ℕ × Record) (v : Walk) : Type 0 where
  pub more : w.i < w.count
  pub number_is : x.0 ≡ w.i
  pub bytes_are : x.1.bytes ≡ w.bytes
  pub place_is : x.1.at ≡ w.at
  pub same : v.bytes ≡ w.bytes
  pub from : v.first ≡ w.first
  pub all : v.count ≡ w.count
  pub next : v.i ≡ w.i + 1

abbrev pub Walked : Walk → Option (ℕ × Record) → Walk → Type 0
Walked w None v = (w.i ≡ w.count) × (v ≡ w)
Walked w (Some x) v = Went w x v
