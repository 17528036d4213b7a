-- Notions that only private contracts cite. Assumes nothing.
use Rattle.std.specs.Prelude.{◌≡◌, Bool, true, false, not, cond, ◌&&◌, ◌||◌, ℕ, suc, ◌+◌, ◌*◌, ◌%◌, ◌^◌, ◌≤◌, ◌<◌, eqb, leb, ltb}
use Rattle.std.specs.Int.Count.{ones}
use Rattle.lists.specs.Searches.{some, each}
use Rattle.network.specs.declared.Link.{Link}
use Rattle.network.specs.declared.Plan.{Plan}
use Rattle.network.specs.declared.Faults.{Faults}
use Rattle.network.specs.Network.{n, m, π, L, link, has, survives, diameter, worst_links}

-- ---- sets of pairs of hosts, each a number with bit 8a + b for the pair of a and b

abbrev pub pair : ℕ → ℕ → ℕ
pair a b = 8 * a + b

-- of the hosts below 8, the set has those pairs that pass the test
abbrev pub Pairs : ℕ → (ℕ → ℕ → Bool) → Type 0
Pairs set t = (a b : ℕ) → a < 8 → b < 8 → has set (pair a b) ≡ t a b

abbrev pub paired : ℕ → ℕ → ℕ → Bool
paired set a b = has set (pair a b)

-- two tests of pairs agree on the hosts below 8
unfoldable pub agree : Bool → Bool → Bool
agree true t = t
agree false t = not t

unfoldable pub alike : (ℕ → ℕ → Bool) → (ℕ → ℕ → Bool) → Bool
alike s t = each 8 (λ a. each 8 (λ b. agree (s a b) (t a b)))

-- link i is the pair of a and b, in this order
unfoldable pub is_pair : Plan → ℕ → ℕ → ℕ → Bool
is_pair p a b i = eqb a (link p i).a && eqb b (link p i).b

-- the link joins a and b
unfoldable pub joins : Link → ℕ → ℕ → Bool
joins l a b = eqb a l.a && eqb b l.b || eqb b l.a && eqb a l.b

-- a link joins a and b
unfoldable pub linked : Plan → ℕ → ℕ → Bool
linked p a b = some (m p) (λ i. joins (link p i) a b)

-- a surviving link joins a and b
unfoldable pub next_to : Plan → Faults → ℕ → ℕ → Bool
next_to p f a b = some (m p) (λ i. survives p f i && joins (link p i) a b)

-- a is b, or one pair of `joined` from a host c that is paired with b
unfoldable pub spreads : ℕ → (ℕ → ℕ → Bool) → ℕ → ℕ → Bool
spreads joined t a b = eqb a b || some 8 (λ c. has joined (pair a c) && t c b)

-- each test spreads from the one before
abbrev pub Spreads : ℕ → (ℕ → ℕ → ℕ → Bool) → Type 0
Spreads joined t = (i a b : ℕ) → a < 8 → b < 8 → t (suc i) a b ≡ spreads joined (t i) a b

-- a and b are survivors where the hosts hs are out
unfoldable pub well : Plan → ℕ → ℕ → Bool
well p hs a = ltb a (n p) && not (has hs a)

unfoldable pub well_both : Plan → ℕ → ℕ → ℕ → Bool
well_both p hs a b = well p hs a && well p hs b

-- what all pairs that are looked for are: two survivors, or a host with itself
unfoldable pub wanted : Plan → ℕ → ℕ → ℕ → Bool
wanted p hs a b = well_both p hs a b || eqb a b

-- ---- the searches over sets

-- what the search over sets of links looks at, and that over sets of hosts
abbrev pub at_links : Plan → ℕ → ℕ → ℕ
at_links p hs ls = cond (leb (ones ls) (L p)) (diameter p (record { hosts = hs; links = ls })) 0

abbrev pub at_hosts : Plan → ℕ → ℕ
at_hosts p hs = cond (leb (ones hs) (π p)) (worst_links p hs) 0

-- a set of up to `most` of k places, none of them below i: it stands for all sets with the same places from i on, set + j for j below 2 ^ i
pub record Upper (i k most set : ℕ) : Type 0 where
  pub places : i ≤ k
  pub fits : set + 2 ^ i ≤ 2 ^ k
  pub none_below : set % 2 ^ i ≡ 0
  pub few : ones set ≤ most

-- what follows where a plan is clear of 1 and 2, and is all that the searches ask of it
pub record Small (p : Plan) : Type 0 where
  pub some_hosts : 1 ≤ n p
  pub hosts : n p ≤ 8
  pub links : m p ≤ 12
  pub ends : (i : ℕ) → i < m p → ((link p i).a < (link p i).b) × ((link p i).b < n p)
  pub once : (i j : ℕ) → i < m p → j < m p → is_pair p (link p i).a (link p i).b j ≡ true → i ≡ j
