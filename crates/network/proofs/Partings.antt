-- Refusal 3 is given exactly where some fault set leaves two survivors that no number of links joins. Assumes nothing.
use mathlib.Core.Path.{◌≡◌, refl, sym, ◌∙◌}
use mathlib.Core.Bool.{Bool, true, false, not, cond, true≢false}
use mathlib.Core.List.{[], ◌∷◌}
use Prim.Native.Nat.{ℕ, ◌-◌, ◌≤◌, ◌<◌, ◌^◌}
use native.Mathlib.Omega.{arith}
use borrow.Author.Tests.{leb-true}
use lib.Dec.{leb}
use lib.Count.{ones}
use Rattle.lists.specs.Tests.{first_of}
use Rattle.lists.proofs.Bools.{false_unless, then_at, else_at}
use Rattle.lists.proofs.SearchLaws.{largest_at}
use Rattle.network.specs.Network.{n, m, π, L, has, in_range, bad_links, within, distance, farthest, diameter, worst_links, worst, plan_tests, plan_refusal, FaultSet, Survivor}
use Rattle.network.specs.Inside.{at_links, at_hosts}
use Rattle.network.specs.declared.Plan.{Plan}
use Rattle.network.specs.declared.Faults.{Faults}
use Rattle.network.proofs.Ranges.{ranges}
use Rattle.network.proofs.Distances.{at_survivor, distance_le}
use Rattle.network.proofs.Connected.{within_hosts}
use Rattle.network.proofs.Survivors.{reached}

-- a fault set that leaves two survivors not connected
pub record Parting (p : Plan) : Type 0 where
  pub faults : Faults
  pub set : FaultSet p faults
  pub a : ℕ
  pub b : ℕ
  pub from : Survivor p faults a
  pub to : Survivor p faults b
  pub never : (k : ℕ) → within p faults k a b ≡ false

-- the plan's first two tests fail and the third passes
third : (t u v : Bool) → first_of ((1, not t) ∷ (2, u) ∷ (3, v) ∷ []) ≡ 3 → (t ≡ true) × (u ≡ false) × (v ≡ true)
third true true v e = absurd (omega arith)
third true false true e = (refl, refl, refl)
third true false false e = absurd (omega arith)
third false u v e = absurd (omega arith)

pub refused_parts : (p : Plan) → plan_refusal p ≡ 3 → Parting p
unfolding plan_tests worst worst_links diameter farthest
refused_parts p e =
    let t = third (in_range p) (bad_links p) (leb (n p) (worst p)) e in
    let r = ranges p t.0 in
    let some_hosts : 0 < n p = omega arith in
    let hs = largest_at (at_hosts p) (n p) (2 ^ n p) some_hosts (leb-true _ _ t.2) in
    let few_hosts = then_at (leb (ones hs.0) (π p)) some_hosts hs.2 in
    let ls = largest_at (at_links p hs.0) (n p) (2 ^ m p) some_hosts few_hosts.1 in
    let few_links = then_at (leb (ones ls.0) (L p)) some_hosts ls.2 in
    let f : Faults = record { hosts = hs.0; links = ls.0 } in
    let b = largest_at (at_survivor p f) (n p) (n p) some_hosts few_links.1 in
    let b-well = else_at (has hs.0 b.0) {x = farthest p f b.0} some_hosts b.2 in
    let a = largest_at (λ x. cond (has hs.0 x) 0 (distance p f x b.0)) (n p) (n p) some_hosts b-well.1 in
    let a-well = else_at (has hs.0 a.0) {x = distance p f a.0 b.0} some_hosts a.2 in
    record {
      faults = f;
      set = record { hosts = hs.1; links = ls.1; few_hosts = leb-true _ _ few_hosts.0; few_links = leb-true _ _ few_links.0 };
      a = a.0;
      b = b.0;
      from = record { host = a.1; well = a-well.0 };
      to = record { host = b.1; well = b-well.0 };
      never = λ k.
          false_unless (within p f k a.0 b.0) (λ q.
          let near = distance_le p f a.0 b.0 (n p - 1) (omega arith) (within_hosts p f b.0 t.1 b.1 k a.0 a.1 q) in
          let far : n p ≤ distance p f a.0 b.0 = a-well.1 in
          omega arith);
    }

pub parts_refused : (p : Plan) → in_range p ≡ true → bad_links p ≡ false → Parting p → plan_refusal p ≡ 3
unfolding plan_tests
parts_refused p r e s = go (leb (n p) (worst p)) refl
  where
    go : (t : Bool) → leb (n p) (worst p) ≡ t → plan_refusal p ≡ 3
    go true q = simp (r, e, q)
    go false q =
        let none : plan_refusal p ≡ 0 = simp (r, e, q) in
        absurd (true≢false (sym (reached p s.faults s.set s.a s.b s.from s.to none) ∙ s.never (worst p)))
