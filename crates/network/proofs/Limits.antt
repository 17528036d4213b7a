-- How large the numbers of an accepted plan are. Assumes nothing.
use mathlib.Core.Path.{◌≡◌, refl}
use mathlib.Core.Bool.{true}
use Prim.Native.Nat.{ℕ, ◌*◌, ◌≤◌, ◌<◌, zero-le}
use native.Mathlib.Omega.{arith}
use native.Mathlib.Nat.{mul-le-mul}
use lib.Pow.{pow_pos}
use lib.Count.{ones, ones_in}
use Rattle.network.specs.Network.{n, m, π, δ, in_range, within, distance, worst, bound, window, plan_refusal, FaultSet}
use Rattle.network.specs.declared.Plan.{Plan}
use Rattle.network.specs.declared.Faults.{Faults}
use Rattle.network.proofs.Bits.{has_none}
use Rattle.network.proofs.Ranges.{ranges, bound_most, first_bound_most, window_most, first_window_most}
use Rattle.network.proofs.Distances.{distance_more}
use Rattle.network.proofs.Answers.{fine}
use Rattle.network.proofs.Survivors.{distance_worst}

-- Δ and W where the plan's numbers are in range and d is 1..7, as planning finds and a sound host keeps
pub record Limits (p : Plan) (d : ℕ) : Type 0 where
  pub bound_high : (rules : ℕ) → bound rules p d ≤ 1280
  pub window_high : (rules : ℕ) → window rules p d ≤ 1792
  pub first_bound_high : bound 1 p d ≤ 896
  pub first_window_high : window 1 p d ≤ 960
  pub bound_low : (rules : ℕ) → 2 ≤ bound rules p d

pub limits : (p : Plan) (d : ℕ) → in_range p ≡ true → 1 ≤ d → d ≤ 7 → Limits p d
unfolding bound
limits p d e low high =
    let r = ranges p e in
    let few : π p ≤ 6 = omega arith in
    record {
      bound_high = λ rules. let h = bound_most p d 6 7 64 64 few high r.delay_high r.skew_high rules in omega arith;
      window_high = λ rules. let h = window_most p d 6 7 64 64 few high r.delay_high r.skew_high rules in omega arith;
      first_bound_high = let h = first_bound_most p d 6 7 64 64 few high r.delay_high r.skew_high in omega arith;
      first_window_high = let h = first_window_most p d 6 7 64 64 few high r.delay_high r.skew_high in omega arith;
      bound_low = λ rules. let far : 1 * 1 ≤ d * δ p = mul-le-mul low r.delay_low in omega (arith, r.skew_low);
    }

-- ---- 1 ≤ d ≤ 7: hosts 0 and 1 are not one host, and no distance of a connected network reaches n

no_faults : Faults
no_faults = record { hosts = 0; links = 0 }

none_faulty : (p : Plan) → FaultSet p no_faults
unfolding no_faults ones ones_in
none_faulty p = record { hosts = pow_pos (n p); links = pow_pos (m p); few_hosts = zero-le; few_links = zero-le }

pub d_low : (p : Plan) → plan_refusal p ≡ 0 → 1 ≤ worst p
unfolding no_faults within
d_low p e =
    let r = ranges p (fine p e).ranges in
    let two-apart : 0 < distance p no_faults 0 1 = distance_more p no_faults 0 1 0 (omega arith) refl in
    let most = distance_worst p no_faults (none_faulty p) 0 1 (record { host = omega arith; well = has_none 0 }) (record { host = omega arith; well = has_none 1 }) in
    omega arith

pub d_high : (p : Plan) → plan_refusal p ≡ 0 → worst p ≤ 7
d_high p e = let r = ranges p (fine p e).ranges in let near = (fine p e).near in omega arith
