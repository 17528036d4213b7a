-- What follows from the claims, in the paper's names where it has one (004, section 2). Assumes nothing.
use Rattle.std.specs.Prelude.{◌≡◌, ℕ, ◌+◌, ◌≤◌, ◌<◌}
use Rattle.lists.specs.Members.{In}
use Rattle.network.specs.Network.{n, ε, worst, bound, Survivor}
use Rattle.network.specs.declared.Plan.{Plan}
use Rattle.diffusion.specs.Hosts.{Carried, Host, SameName}
use Rattle.diffusion.specs.Run.{Story, reading, delivers, Starts-at, log, up_to}

pub record Follows (P : Plan) (H : Host) (R : Story) : Type 0 where
  -- atomicity: what one faultless host delivers, each faultless host delivers at the same reading, if its clock gets there, and some host started it
  pub atomicity : (p q t u : ℕ) (x : Carried) → Survivor P R.faults p → Survivor P R.faults q → t ≤ R.end → u ≤ R.end → reading R q u ≡ reading R p t
      → In x (delivers H R p t) → In x (delivers H R q u)
  -- order: "in the same order by each correct processor", up to any reading that both have reached
  pub order : (p q U : ℕ) → Survivor P R.faults p → Survivor P R.faults q → U ≤ reading R p R.end → U ≤ reading R q R.end
      → up_to H R U (log H R p R.end) ≡ up_to H R U (log H R q R.end)
  -- termination: what a faultless host started, each faultless host delivers at stamp + Δ, if its clock gets there
  pub termination : (s q t u : ℕ) (x : Carried) → Survivor P R.faults s → Survivor P R.faults q → Starts-at H R s t x → u ≤ R.end → reading R q u ≡ x.stamp + bound 1 P (worst P)
      → In x (delivers H R q u)
  -- a host delivers at most once under a name
  pub once : (p t u : ℕ) (x y : Carried) → p < n P → t ≤ R.end → u ≤ R.end → In x (delivers H R p t) → In y (delivers H R p u) → SameName x y → (t ≡ u) × (x ≡ y)
  -- two hosts that deliver one order do so less than ε ticks apart
  pub near : (p q t u : ℕ) (x : Carried) → p < n P → q < n P → t ≤ R.end → u ≤ R.end → In x (delivers H R p t) → In x (delivers H R q u) → t < u + ε P
