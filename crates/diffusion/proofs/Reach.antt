-- What one faultless host takes every faultless host takes before it is due there: the diffusion from the first faultless host that took it.
-- Assumes nothing.
use mathlib.Core.Path.{◌≡◌, sym, subst}
use mathlib.Core.Logic.{◌⊎◌, inl, inr}
use Prim.Native.Nat.{ℕ, ◌+◌, ◌*◌, ◌≤◌, ◌<◌}
use native.Mathlib.Decide.{dec_le}
use native.Mathlib.Omega.{arith}
use Rattle.network.specs.Network.{π, δ, worst, Survivor}
use Rattle.network.specs.declared.Plan.{Plan}
use Rattle.diffusion.specs.Hosts.{Carried, Copy, Host}
use Rattle.diffusion.specs.Run.{Story, reading, calls_at, ticked, Takes-at, Sends-at, Handed-at}
use Rattle.diffusion.proofs.Laws.{Δ, Owns, Laws, FirstRules, Sturdy, Lasts, Timed}
use Rattle.diffusion.proofs.Diffuse.{diffuse, Propagates}
use Rattle.diffusion.proofs.Life as Life
use Rattle.diffusion.proofs.Spread as Spread
use Rattle.diffusion.proofs.Spread.{Root, First}

pub flip : {A B : Type 0} → A ⊎ B → B ⊎ A
flip (inl i) = inr i
flip (inr i) = inl i

module _ (P : Plan) (F : Sturdy P) (H : Host) (L : Laws P H) (B : FirstRules P H L) (R : Story) (M : Timed P H R) where
  b1 : 1 ≤ Δ P
  b1 = F.bound_least

  -- q takes x, and no later than b after tick a on any faultless clock
  abbrev Knows : Carried → ℕ → ℕ → ℕ → Type 0
  Knows x a q b = (v : ℕ) × Takes-at H R q v x × Lasts P R a v b

  -- the time that the copies may take: the faulty hosts' part, and the survivors'
  abbrev budget : ℕ
  budget = π P * δ P + worst P * δ P

  propagates : (x : Carried) (w c : ℕ) (r : Root P F H L B R M x w c) (z e : ℕ) → Survivor P R.faults z → e ≤ R.end → x.stamp + Δ P ≤ reading R z e
      → Propagates P R.faults F.ends_in (δ P) budget (Knows x r.at)
  propagates x w c r z e sz he reach p q k b jn sp ok sq bb kn =
      go (Life.some_sends P H L B p (reading R p v) (ticked H R p v) (calls_at R p v) x k (Life.ok_ticked P H L B R M b1 p v sp.host) (q, jn) kn.1)
    where
      v : ℕ
      v = kn.0

      sooner : (i u : ℕ) → i ≤ u → Lasts P R r.at u (b + δ P) → Lasts P R r.at i (b + δ P)
      sooner i u l la y sy = let a₁ = la y sy in let a₂ = Life.steadily P H L B R M b1 y i u l in omega (arith, a₁, a₂)

      -- a clock of a faultless host, when no more than the budget has passed
      in_time : (y u : ℕ) → Survivor P R.faults y → Lasts P R r.at u (b + δ P) → reading R y u < x.stamp + Δ P
      in_time y u sy la =
          let a₁ = la y sy in
          let a₂ = M.close y x.source r.at sy.host r.host in
          let a₃ = r.stamp_is in
          let d = F.bound_is in
          omega (arith, a₁, a₂, a₃, bb, d)

      inside : (u : ℕ) → Lasts P R r.at u (b + δ P) → u ≤ R.end
      inside u la = stop (dec_le e u)
        where
          stop : Dec (e ≤ u) → u ≤ R.end
          stop (yes l) = let a₁ = Life.steadily P H L B R M b1 z e u l in let a₂ = in_time z u sz la in absurd (omega (arith, a₁, a₂, reach))
          stop (no ne) = omega (arith, ne, he)

      go : ((h : ℕ) × Sends-at H R p v (record { what = x; hop = h }) k) ⊎ ((d : Copy) × (x ≡ d.what) × Handed-at H R p v k d) → Knows x r.at q (b + δ P)
      go (inl s) =
          let c : Copy = record { what = x; hop = s.0 } in
          let n = M.no_loss p v k q c jn sp ok sq s.1 in
          let u = n.0 in
          let vu = n.1 in
          let la : Lasts P R r.at u (b + δ P) = λ y sy. (let a₁ = kn.2 y sy in let a₂ = n.2 y sy in omega (arith, a₁, a₂)) in
          let rt = Spread.taken_root P F H L B R M p v x sp.host kn.1 in
          let rb = rt.1.by in
          let own : Owns P q k = (p, (jn.0, flip jn.1)) in
          let plain = Life.sent_plain P H L B R M b1 p v c k sp.host s.1 in
          let t = Spread.handed_taken P F H L B R M q u k c v rt.0 rt.1 sq.host own (omega (arith, rb, vu)) plain (n.3 (inside u la)) (in_time q u sq la) in
          (t.0, t.2, sooner t.0 u t.1 la)
      go (inr h) =
          let a = M.arrives p v k h.0 sp.host h.2 in
          let uv = a.3 in
          let la : Lasts P R r.at v (b + δ P) = λ y sy. (let a₁ = kn.2 y sy in omega (arith, a₁)) in
          let same = Spread.other_end P k p q a.0 a.2 jn in
          let took = subst (Takes-at H R a.0 a.1) (sym h.1) (Life.sent_taken P H L B R M b1 a.0 a.1 h.0 k a.5) in
          (a.1, subst (λ i. Takes-at H R i a.1 x) same took, sooner a.1 v (omega (arith, uv)) la)

  pub reached : (x : Carried) (p t : ℕ) → Survivor P R.faults p → Takes-at H R p t x
      → (z e : ℕ) → Survivor P R.faults z → e ≤ R.end → x.stamp + Δ P ≤ reading R z e → (v : ℕ) × (v < e) × Takes-at H R z v x
  reached x p t sp k z e sz he due = (kn.0, earlier (dec_le e kn.0), kn.1)
    where
      f : First P F H L B R M x
      f = Spread.first_of P F H L B R M p t x sp k

      r : Root P F H L B R M x f.when (π P * δ P)
      r = Spread.first_root P F H L B R M x f

      sf : Survivor P R.faults f.who
      sf = record { host = Spread.way_host P F H L B R M x f.who f.when f.past f.its; well = f.fine }

      kn : Knows x r.at z budget
      kn =
          diffuse P R.faults F.ends_in (δ P) budget (Knows x r.at)
          (propagates x f.when (π P * δ P) r z e sz he due)
          (λ q b c l i. (i.0, i.1, λ y sy. (let a = i.2 y sy in omega (arith, a, l))))
          (worst P) f.who z (π P * δ P) sf
          (F.reach R.faults M.set f.who z sf sz)
          (omega arith)
          (f.when, Spread.way_takes P F H L B R M x f.who f.when f.past f.its, r.lasts)

      earlier : Dec (e ≤ kn.0) → kn.0 < e
      earlier (yes l) =
          let a₁ = Life.steadily P H L B R M b1 z e kn.0 l in
          let a₂ = Life.taken_time P H L B R M b1 z kn.0 x sz.host kn.1 in
          absurd (omega (arith, a₁, a₂, due))
      earlier (no ne) = omega (arith, ne)
