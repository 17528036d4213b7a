-- A host's own links, as a set (01, "A host's calls"). Assumes nothing.
use Rattle.std.specs.Prelude.{Bool, not, cond, ◌&&◌, ◌||◌, ℕ, zero, suc, ◌+◌, ◌*◌, leb, eqb}
use Rattle.network.specs.Network.{m, link}
use Rattle.network.specs.declared.Plan.{Plan}

-- the set of those numbers below k that pass the test: bit i for number i
unfoldable pub set_of : ℕ → (ℕ → Bool) → ℕ
set_of zero f = 0
set_of (suc k) f = cond (f 0) 1 0 + 2 * set_of k (λ i. f (suc i))

-- how many links of a plan have a place: all, where it is in range
abbrev pub placed : Plan → ℕ
placed p = cond (leb (m p) 12) (m p) 12

-- link i of the plan has the host at an end
abbrev pub ends : Plan → ℕ → ℕ → Bool
ends p own i = eqb (link p i).a own || eqb (link p i).b own

-- "all own links"
abbrev pub own_links : Plan → ℕ → ℕ
own_links p own = set_of (m p) (ends p own)

-- "all own links but that one"
abbrev pub ends_but : Plan → ℕ → ℕ → ℕ → Bool
ends_but p own arrival i = ends p own i && not (eqb i arrival)

abbrev pub other_links : Plan → ℕ → ℕ → ℕ
other_links p own arrival = set_of (m p) (ends_but p own arrival)
