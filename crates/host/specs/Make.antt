-- Making a host: "making a host 1, 2, 3, 23, 15"; "Making a host takes Δ from planning" (01, "Refusal numbers"). Assumes nothing.
use Rattle.std.specs.Prelude.{Bool, not, List, [], ◌∷◌, ◌++◌, ℕ, leb, Result, Ok, Err}
use Rattle.lists.specs.Tests.{first_of}
use Rattle.lists.specs.Lists.{pad}
use Rattle.orders.specs.Rules.{is_rules}
use Rattle.network.specs.Network.{no_link, n, m, π, L, δ, ε, worst, bound, plan_tests}
use Rattle.network.specs.declared.Plan.{Plan}
use Rattle.host.specs.declared.Host.{Host}
use Rattle.host.specs.declared.Refusal.{Refusal}
use Rattle.host.specs.State.{no_reading, no_held, links_of}
use Rattle.host.specs.Answers.{unless}

unfoldable pub make_tests : Plan → ℕ → ℕ → List (ℕ × Bool)
make_tests p rules own = plan_tests p ++ ((23, not (is_rules rules)) ∷ (15, leb (n p) own) ∷ [])

abbrev pub make_refusal : Plan → ℕ → ℕ → ℕ
make_refusal p rules own = first_of (make_tests p rules own)

-- "A fresh state has no starts, an empty history and last reading 0"
abbrev pub unstarted : Plan → ℕ → ℕ → ℕ → ℕ → Host
unstarted p rules d Δ own =
    record {
      plan = p;
      rules = rules;
      d = d;
      bound = Δ;
      own = own;
      last = no_reading;
      started = 0;
      starts = pad 4 no_reading [];
      held = 0;
      history = pad 32 no_held [];
    }

-- the plan with its unused places zero
abbrev pub cleared : Plan → Plan
cleared p =
    record {
      hosts = n p;
      faulty_hosts = π p;
      link_count = m p;
      faulty_links = L p;
      delay = δ p;
      skew = ε p;
      links = pad 12 no_link (links_of p);
    }

abbrev pub fresh : Plan → ℕ → ℕ → Host
fresh p rules own = unstarted (cleared p) rules (worst p) (bound rules p (worst p)) own

-- "zero elsewhere"
abbrev pub no_plan : Plan
no_plan = record { hosts = 0; faulty_hosts = 0; link_count = 0; faulty_links = 0; delay = 0; skew = 0; links = pad 12 no_link [] }

abbrev pub no_host : Host
no_host = unstarted no_plan 0 0 0 0

-- the host that was made, or the zero state
abbrev pub made : Result Host Refusal → Host
made (Ok h) = h
made (Err r) = no_host

abbrev pub make_host : Plan → ℕ → ℕ → Host
make_host p rules own = unless (make_refusal p rules own) (fresh p rules own) no_host
