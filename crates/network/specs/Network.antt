-- Planning of a network: what 01 says under "Planning" and at refusals 1, 2 and 3, sentence by sentence. Assumes nothing.
use Rattle.std.specs.Prelude.{◌≡◌, Bool, false, not, cond, ◌&&◌, ◌||◌, List, [], ◌∷◌, ℕ, zero, suc, ◌+◌, ◌*◌, ◌/◌, ◌%◌, ◌^◌, ◌≤◌, ◌<◌, leb, eqb, get_or, Result, Ok, Err, codes}
use Rattle.std.specs.Int.Count.{ones}
use Rattle.lists.specs.Tests.{all_of, any_of, first_of}
use Rattle.lists.specs.Searches.{some, largest, least}
use Rattle.network.specs.declared.Link.{Link}
use Rattle.network.specs.declared.Plan.{Plan}
use Rattle.network.specs.declared.Faults.{Faults}
use Rattle.network.specs.declared.Timing.{Timing}
use Rattle.network.specs.declared.Bounds.{Bounds}
use Rattle.network.specs.declared.PlanRefusal.{PlanRefusal}
use Rattle.network.specs.declared.PlanRefusal.TheVariants.{OutOfRange, BadLink, Parted}

-- a plan's numbers by the paper's symbols, and its links
abbrev pub n : Plan → ℕ
n p = p.hosts

abbrev pub m : Plan → ℕ
m p = p.link_count

abbrev pub π : Plan → ℕ
π p = p.faulty_hosts

abbrev pub L : Plan → ℕ
L p = p.faulty_links

abbrev pub δ : Plan → ℕ
δ p = p.delay

abbrev pub ε : Plan → ℕ
ε p = p.skew

abbrev pub no_link : Link
no_link = record { a = 0; b = 0 }

abbrev pub link : Plan → ℕ → Link
link p i = get_or p.links i no_link

-- refusal 1: "a plan number is out of range"
unfoldable pub in_range : Plan → Bool
in_range p =
    all_of (
    leb 2 (n p) ∷ leb (n p) 8 ∷ leb 1 (m p) ∷ leb (m p) 12
    ∷ leb (π p + 2) (n p) ∷ leb (L p) 12
    ∷ leb 1 (δ p) ∷ leb (δ p) 64 ∷ leb 1 (ε p) ∷ leb (ε p) 64 ∷ [])

-- links i and j are one pair
unfoldable pub same : Plan → ℕ → ℕ → Bool
same p i j = all_of (eqb (link p i).a (link p j).a ∷ eqb (link p i).b (link p j).b ∷ [])

-- refusal 2: "a link end is n or more, a ≥ b, or a pair repeats"
unfoldable pub bad_link : Plan → ℕ → Bool
bad_link p i = any_of (leb (n p) (link p i).a ∷ leb (n p) (link p i).b ∷ leb (link p i).b (link p i).a ∷ some i (same p i) ∷ [])

unfoldable pub bad_links : Plan → Bool
bad_links p = some (m p) (bad_link p)

-- "A set of hosts is one number with a bit for each host, and its size is the number of ones in it", `ones`; a set of links likewise
unfoldable pub has : ℕ → ℕ → Bool
has set i = eqb (set / 2 ^ i % 2) 1

-- "A fault set is up to π hosts and up to L links"
pub record FaultSet (p : Plan) (f : Faults) : Type 0 where
  pub hosts : f.hosts < 2 ^ n p
  pub links : f.links < 2 ^ m p
  pub few_hosts : ones f.hosts ≤ π p
  pub few_links : ones f.links ≤ L p

-- "Survivors are the hosts not in it ..
pub record Survivor (p : Plan) (f : Faults) (a : ℕ) : Type 0 where
  pub host : a < n p
  pub well : has f.hosts a ≡ false

-- .. with the links not in it whose ends both survive"
unfoldable pub survives : Plan → Faults → ℕ → Bool
survives p f i = all_of (not (has f.links i) ∷ not (has f.hosts (link p i).a) ∷ not (has f.hosts (link p i).b) ∷ [])

-- link i survives and joins a to a host that g holds of
unfoldable pub via : Plan → Faults → (ℕ → Bool) → ℕ → ℕ → Bool
via p f g a i = survives p f i && (g (link p i).a && eqb a (link p i).b || g (link p i).b && eqb a (link p i).a)

-- "a host is within k links of another if it is that host, or a neighbour over a surviving link is within k−1"
unfoldable pub within : Plan → Faults → ℕ → ℕ → ℕ → Bool
within p f zero a b = eqb a b
within p f (suc k) a b = eqb a b || some (m p) (via p f (λ c. within p f k c b) a)

-- "Distance is the fewest links between two survivors"; n where no number below n is enough: the two are not connected
unfoldable pub distance : Plan → Faults → ℕ → ℕ → ℕ
distance p f a b = least (n p) (λ k. within p f k a b)

-- the largest distance of a survivor from b
unfoldable pub farthest : Plan → Faults → ℕ → ℕ
farthest p f b = largest (n p) (λ a. cond (has f.hosts a) 0 (distance p f a b))

-- "The diameter is the largest distance"
unfoldable pub diameter : Plan → Faults → ℕ
diameter p f = largest (n p) (λ b. cond (has f.hosts b) 0 (farthest p f b))

-- the largest diameter over the sets of up to L links, where the hosts hs are out
unfoldable pub worst_links : Plan → ℕ → ℕ
worst_links p hs = largest (2 ^ m p) (λ ls. cond (leb (ones ls) (L p)) (diameter p (record { hosts = hs; links = ls })) 0)

-- "d is the largest diameter over all fault sets"
unfoldable pub worst : Plan → ℕ
worst p = largest (2 ^ n p) (λ hs. cond (leb (ones hs) (π p)) (worst_links p hs) 0)

-- "First rules: Δ = πδ + dδ + ε. Second rules: Δ = π(δ+ε) + dδ + ε."
unfoldable pub bound : ℕ → Plan → ℕ → ℕ
bound rules p d = π p * cond (eqb rules 1) (δ p) (δ p + ε p) + d * δ p + ε p

-- "W is Δ + ε under the first rules and Δ + 8ε under the second"
unfoldable pub window : ℕ → Plan → ℕ → ℕ
window rules p d = bound rules p d + cond (eqb rules 1) 1 8 * ε p

abbrev pub timing : ℕ → Plan → ℕ → Timing
timing rules p d = record { bound = bound rules p d; window = window rules p d }

abbrev pub bounds : Plan → ℕ → Bounds
bounds p d = record { d = d; first = timing 1 p d; second = timing 2 p d }

-- "plan 1, 2, 3"; 3: "some fault set leaves survivors not connected"
unfoldable pub plan_tests : Plan → List (ℕ × Bool)
plan_tests p = (1, not (in_range p)) ∷ (2, bad_links p) ∷ (3, leb (n p) (worst p)) ∷ []

abbrev pub plan_refusal : Plan → ℕ
plan_refusal p = first_of (plan_tests p)

-- the refusal, 0 for none, and the bounds; "A refusal returns its number and zero elsewhere"
pub record Said : Type 0 where
  pub refusal : ℕ
  pub bounds : Bounds

abbrev pub refused : ℕ → Said
refused r = record { refusal = r; bounds = record { d = 0; first = record { bound = 0; window = 0 }; second = record { bound = 0; window = 0 } } }

abbrev pub planned : Plan → Said
planned p = cond (eqb (plan_refusal p) 0) (record { refusal = 0; bounds = bounds p (worst p) }) (refused (plan_refusal p))

-- the paper's number for each refusal
abbrev pub number : PlanRefusal → ℕ
number OutOfRange = 1
number BadLink = 2
number Parted = 3

-- and its words
abbrev pub words : PlanRefusal → List ℕ
words OutOfRange = codes "plan number out of range"
words BadLink = codes "plan link of no two hosts, or twice"
words Parted = codes "plan parted by a fault set"

-- the paper's number and values for each case of the answer
abbrev pub says : Result Bounds PlanRefusal → Said
says (Ok b) = record { refusal = 0; bounds = b }
says (Err r) = refused (number r)
