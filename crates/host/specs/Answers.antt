-- The paper's number and values for each case of an answer (01, "Refusal numbers"). Assumes nothing.
use Rattle.std.specs.Prelude.{List, cond, codes, ℕ, eqb, Result, Ok, Err}
use Rattle.network.specs.declared.PlanRefusal.{PlanRefusal}
use Rattle.network.specs.declared.PlanRefusal.TheVariants as plan
use Rattle.host.specs.declared.Refusal.{Refusal}
use Rattle.host.specs.declared.Refusal.TheVariants.{OutOfRange, BadLink, Parted, Unsound, BadReading, Behind, SameStart, WindowFull, HistoryFull, NotInPlan, Early, Late, Past, Known, OtherHeld, OwnNotHeld, ShortBuffer, BadValue}
use Rattle.host.specs.declared.Sent.{Sent}

abbrev pub number : Refusal → ℕ
number OutOfRange = 1
number BadLink = 2
number Parted = 3
number Unsound = 9
number BadReading = 10
number Behind = 11
number SameStart = 12
number WindowFull = 13
number HistoryFull = 14
number NotInPlan = 15
number Early = 16
number Late = 17
number Past = 18
number Known = 19
number OtherHeld = 20
number OwnNotHeld = 21
number ShortBuffer = 22
number BadValue = 23

-- planning's refusals are a making's first
abbrev pub of_plan : PlanRefusal → Refusal
of_plan plan.OutOfRange = OutOfRange
of_plan plan.BadLink = BadLink
of_plan plan.Parted = Parted

abbrev pub words : Refusal → List ℕ
words OutOfRange = codes "plan number out of range"
words BadLink = codes "plan link of no two hosts, or twice"
words Parted = codes "plan parted by a fault set"
words Unsound = codes "state not sound"
words BadReading = codes "reading out of range"
words Behind = codes "reading less than the last"
words SameStart = codes "start at the reading of the last start"
words WindowFull = codes "fourth last start within the window"
words HistoryFull = codes "32 orders held"
words NotInPlan = codes "host, link or source not in the plan"
words Early = codes "copy too early for its hop"
words Late = codes "copy too late for its hop"
words Past = codes "copy past its bound"
words Known = codes "same order held under the name"
words OtherHeld = codes "other order held under the name"
words OwnNotHeld = codes "own order not held"
words ShortBuffer = codes "lent buffer too short"
words BadValue = codes "rule set, stamp, hop or share out of range"

-- the refusal, and 0 for none
abbrev pub refusal_of : {A : Type 0} → Result A Refusal → ℕ
refusal_of (Ok x) = 0
refusal_of (Err r) = number r

-- the refusal, the links as a set, bit i for link i of the plan, and the hop
pub record Said : Type 0 where
  pub refusal : ℕ
  pub links : ℕ
  pub hop : ℕ

abbrev pub says : Result Sent Refusal → Said
says (Ok s) = record { refusal = 0; links = s.links; hop = s.hop }
says (Err r) = record { refusal = number r; links = 0; hop = 0 }

-- the refusal, and how many orders were delivered
pub record SaidTick : Type 0 where
  pub refusal : ℕ
  pub count : ℕ

abbrev pub says_tick : Result ℕ Refusal → SaidTick
says_tick (Ok count) = record { refusal = 0; count = count }
says_tick (Err r) = record { refusal = number r; count = 0 }

-- "A refusal returns its number and zero elsewhere"
abbrev pub said_by : ℕ → ℕ → ℕ → Said
said_by refusal links hop = cond (eqb refusal 0) (record { refusal = 0; links = links; hop = hop }) (record { refusal = refusal; links = 0; hop = 0 })

abbrev pub said_by_tick : ℕ → ℕ → SaidTick
said_by_tick refusal count = cond (eqb refusal 0) (record { refusal = 0; count = count }) (record { refusal = refusal; count = 0 })

-- "A refused one sets nothing"
abbrev pub unless : {A : Type 0} → ℕ → A → A → A
unless refusal after now = cond (eqb refusal 0) after now
