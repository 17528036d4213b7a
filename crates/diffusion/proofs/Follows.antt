-- What follows from the claims. Assumes nothing.
use mathlib.Core.Path.{◌≡◌, sym, ap, ◌∙◌, subst}
use mathlib.Core.Logic.{◌⊎◌, inl, inr}
use mathlib.Core.List.{List, [], ◌∷◌, map}
use Prim.Native.Nat.{ℕ, zero, suc, ◌+◌, ◌≤◌, ◌<◌}
use native.Mathlib.Decide.{dec_le}
use native.Mathlib.Nat.{le_refl}
use native.Mathlib.Omega.{arith}
use borrow.Author.Tests.{le-leb}
use lib.Dec.{leb}
use Rattle.lists.specs.Members.{In}
use Rattle.lists.proofs.MemberLaws.{all_in, in_left, in_right, in_append, in_keep, keep_in, in_map, map_in}
use Rattle.network.specs.Network.{n, ε, worst, bound, Survivor}
use Rattle.network.specs.declared.Plan.{Plan}
use Rattle.diffusion.specs.Hosts.{Carried, Host, Before, Rising, SameName}
use Rattle.diffusion.specs.Run.{Story, reading, delivers, log, up_to, Premises, Claims}
use Rattle.diffusion.specs.Follows.{Follows}

-- of what rises, what has one name is one
rising_once : (l : List Carried) → Rising l → (x y : Carried) → In x l → In y l → SameName x y → x ≡ y
rising_once [] r x y i j s = absurd i
rising_once (z ∷ l) r x y (inl e) (inl f) s = e ∙ sym f
rising_once (z ∷ l) r x y (inl e) (inr j) s = absurd (apart x y (subst (λ (w : Carried). Before w y) (sym e) (all_in (Before z) l r.0 y j)) s)
  where
    apart : (x y : Carried) → Before x y → SameName x y → ⊥
    apart x y (inl b) s = let e : x.stamp ≡ y.stamp = s.0 in omega arith
    apart x y (inr b) s = let e : x.source ≡ y.source = s.1 in let f : x.source < y.source = b.1 in omega arith
rising_once (z ∷ l) r x y (inr i) (inl f) s = absurd (apart x y (subst (λ (w : Carried). Before w x) (sym f) (all_in (Before z) l r.0 x i)) s)
  where
    apart : (x y : Carried) → Before y x → SameName x y → ⊥
    apart x y (inl b) s = let e : x.stamp ≡ y.stamp = s.0 in omega arith
    apart x y (inr b) s = let e : x.source ≡ y.source = s.1 in let f : y.source < x.source = b.1 in omega arith
rising_once (z ∷ l) r x y (inr i) (inr j) s = rising_once l r.1 x y i j s

module _ (H : Host) (R : Story) (p : ℕ) where
  told : ℕ → Carried → ℕ × Carried
  told t y = (reading R p t, y)

  pub in_log : (t k : ℕ) (x : Carried) → t ≤ k → In x (delivers H R p t) → In (reading R p t, x) (log H R p k)
  unfolding log told
  in_log t zero x l i =
      let z : t ≡ 0 = omega arith in
      subst (λ (u : ℕ). In (reading R p u, x) (log H R p zero)) (sym z) (in_map (told zero) (delivers H R p zero) x (subst (λ (u : ℕ). In x (delivers H R p u)) z i))
  in_log t (suc k) x l i = go (dec_le t k) (in_log t k x)
    where
      go : Dec (t ≤ k) → (t ≤ k → In x (delivers H R p t) → In (reading R p t, x) (log H R p k)) → In (reading R p t, x) (log H R p (suc k))
      go (yes h) ih = in_left (log H R p k) (map (told (suc k)) (delivers H R p (suc k))) (reading R p t, x) (ih h i)
      go (no h) ih =
          let z : t ≡ suc k = last t k l h in
          in_right (log H R p k) (map (told (suc k)) (delivers H R p (suc k))) (reading R p t, x)
          (subst (λ (u : ℕ). In (reading R p u, x) (map (told (suc k)) (delivers H R p (suc k)))) (sym z)
          (in_map (told (suc k)) (delivers H R p (suc k)) x (subst (λ (u : ℕ). In x (delivers H R p u)) z i)))
        where
          last : (t k : ℕ) → t ≤ suc k → (t ≤ k → ⊥) → t ≡ suc k
          last t k l h = omega arith

  pub log_in : (k : ℕ) (e : ℕ × Carried) → In e (log H R p k) → (t : ℕ) × (t ≤ k) × In e.1 (delivers H R p t) × (e.0 ≡ reading R p t)
  unfolding log told
  log_in zero e i =
      let r = map_in (told zero) (delivers H R p zero) e i in
      (zero, le_refl zero, subst (λ (y : Carried). In y (delivers H R p zero)) (sym (ap (λ (w : ℕ × Carried). w.1) r.2)) r.1, ap (λ (w : ℕ × Carried). w.0) r.2)
  log_in (suc k) e i = go (in_append (log H R p k) (map (told (suc k)) (delivers H R p (suc k))) e i) (log_in k e)
    where
      go : In e (log H R p k) ⊎ In e (map (told (suc k)) (delivers H R p (suc k)))
          → (In e (log H R p k) → (t : ℕ) × (t ≤ k) × In e.1 (delivers H R p t) × (e.0 ≡ reading R p t))
          → (t : ℕ) × (t ≤ suc k) × In e.1 (delivers H R p t) × (e.0 ≡ reading R p t)
      go (inl j) ih = let r = ih j in let l = r.1 in (r.0, omega (arith, l), r.2, r.3)
      go (inr j) ih =
          let r = map_in (told (suc k)) (delivers H R p (suc k)) e j in
          (suc k, le_refl (suc k), subst (λ (y : Carried). In y (delivers H R p (suc k))) (sym (ap (λ (w : ℕ × Carried). w.1) r.2)) r.1, ap (λ (w : ℕ × Carried). w.0) r.2)

module _ (P : Plan) (H : Host) (R : Story) (G : Premises P H R) (C : Claims P H R) where
  D : ℕ
  D = bound 1 P (worst P)

  atomicity : (p q t u : ℕ) (x : Carried) → Survivor P R.faults p → Survivor P R.faults q → t ≤ R.end → u ≤ R.end → reading R q u ≡ reading R p t
      → In x (delivers H R p t) → In x (delivers H R q u)
  atomicity p q t u x sp sq lt lu e i =
      let U : ℕ = reading R p t in
      let mine : In (U, x) (up_to H R U (log H R p R.end)) = keep_in (λ w. leb w.0 U) (log H R p R.end) (U, x) (in_log H R p t R.end x lt i) (le-leb U U (le_refl U)) in
      let same = C.same p q U sp sq (omega arith) (omega arith) in
      let yours = in_keep (λ w. leb w.0 U) (log H R q R.end) (U, x) (subst (In (U, x)) same mine) in
      let r = log_in H R q R.end (U, x) yours.0 in
      let at : reading R p t ≡ reading R q r.0 = r.3 in
      let one : r.0 ≡ u = omega arith in
      subst (λ (v : ℕ). In x (delivers H R q v)) one r.2

  once : (p t u : ℕ) (x y : Carried) → p < n P → t ≤ R.end → u ≤ R.end → In x (delivers H R p t) → In y (delivers H R p u) → SameName x y → (t ≡ u) × (x ≡ y)
  once p t u x y h lt lu i j s =
      let a = C.on_time p t x h lt i in
      let b = C.on_time p u y h lu j in
      let c : x.stamp ≡ y.stamp = s.0 in
      let at : (k : ℕ) (z : Carried) → k ≤ R.end → In z (delivers H R p k) → In z (map (λ e. e.1) (log H R p R.end)) =
      λ k z l d. in_map (λ (e : ℕ × Carried). e.1) (log H R p R.end) (reading R p k, z) (in_log H R p k R.end z l d) in
      (omega arith, rising_once (map (λ e. e.1) (log H R p R.end)) (C.rises p h) x y (at t x lt i) (at u y lu j) s)

  near : (p q t u : ℕ) (x : Carried) → p < n P → q < n P → t ≤ R.end → u ≤ R.end → In x (delivers H R p t) → In x (delivers H R q u) → t < u + ε P
  near p q t u x hp hq lt lu i j =
      let a = C.on_time p t x hp lt i in
      let b = C.on_time q u x hq lu j in
      let c = G.close q p hq hp in
      omega arith

  pub follows : Follows P H R
  follows = record { atomicity = atomicity; order = C.same; termination = C.delivered; once = once; near = near }
