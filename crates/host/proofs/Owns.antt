-- Of the host's own orders in a history the last tells whether all were started, since the stamps rise. Assumes nothing.
use mathlib.Core.Path.{◌≡◌, refl, sym, ap, ◌∙◌}
use mathlib.Core.Bool.{Bool, true, false, not, cond, ◌&&◌, ◌||◌, and-true, and-false}
use mathlib.Core.List.{List, ◌∷◌}
use mathlib.Core.Logic.{◌⊎◌, inl, inr}
use Prim.Native.Nat.{ℕ, ◌+◌, ◌-◌, ◌≤◌}
use native.Mathlib.Omega.{arith}
use borrow.Author.Tests.{leb-true, le-leb, eqb-true, ne_eqb}
use lib.Dec.{leb, ltb, eqb}
use lib.ListN.{length, drop}
use Rattle.std.proofs.Common.{Option, None, Some}
use Rattle.lists.specs.Lists.{all, follows}
use Rattle.lists.proofs.Bools.{and_left_lem, and_right, or_cases, or_true_right}
use Rattle.lists.proofs.Loops.{left_none, all_turn, all_end}
use Rattle.clock.specs.Clock.{largest_stamp}
use Rattle.orders.specs.Orders.{share_fits}
use Rattle.host.specs.declared.Held.{Held}
use Rattle.host.specs.State.{before, fits, own_started}
use Rattle.host.specs.Inside.{past_own, end_started}
use Rattle.host.proofs.Names.{Goes, before_is}

before_stamp : (x e : Held) → before x e ≡ true → x.stamp.0 ≤ e.stamp.0
before_stamp x e t = go (before_is x e t)
  where
    go : Goes x e → x.stamp.0 ≤ e.stamp.0
    go (inl l) = omega arith
    go (inr s) = let same : x.stamp.0 ≡ e.stamp.0 = s.0 in omega arith

pub fit_stamp : (hosts : ℕ) (e : Held) → fits hosts e ≡ true → e.stamp.0 ≤ largest_stamp
fit_stamp hosts e t =
    let stamp : Bool = leb e.stamp.0 largest_stamp in
    let source : Bool = ltb e.source hosts in
    leb-true _ _ (and_left_lem stamp source (and_left_lem (stamp && source) (share_fits e.order) t))

module _ (own started newest : ℕ) where
  -- where a later one was started, so was an earlier one
  end_down : (m k : ℕ) → m ≤ k → end_started started newest k ≡ true → end_started started newest m ≡ true
  end_down m k h t = go (or_cases (eqb k 0) (ltb 0 started && leb (k - 1) newest) t)
    where
      go : (eqb k 0 ≡ true) ⊎ ((ltb 0 started && leb (k - 1) newest) ≡ true) → end_started started newest m ≡ true
      go (inl q) = let z : k ≡ 0 = eqb-true k 0 q in let y : m ≡ 0 = omega arith in rw y refl
      go (inr q) =
          let low : k - 1 ≤ newest = leb-true _ _ (and_right (ltb 0 started) (leb (k - 1) newest) q) in
          or_true_right (eqb m 0) (ltb 0 started && leb (m - 1) newest) (rw (and_left_lem (ltb 0 started) (leb (k - 1) newest) q, le-leb (m - 1) newest (omega arith)) refl)

  -- what was found so far, with the test of one order more
  turn : (e : Held) (m : ℕ) → m ≤ e.stamp.0 + 1 → (end_started started newest m && own_started own started newest e) ≡ end_started started newest (past_own own e m)
  turn e m h = go (eqb e.source own)
    where
      last : ℕ
      last = e.stamp.0 + 1

      back : last - 1 ≡ e.stamp.0
      back = omega arith

      is : (ltb 0 started && leb e.stamp.0 newest) ≡ end_started started newest last
      is = rw (ne_eqb last 0 (λ q. omega arith), back) refl

      both : (b : Bool) → end_started started newest last ≡ b → (end_started started newest m && b) ≡ b
      both true q = ap (λ (t : Bool). t && true) (end_down m last h q)
      both false q = and-false (end_started started newest m)

      go : (b : Bool) → (end_started started newest m && (not b || ltb 0 started && leb e.stamp.0 newest)) ≡ end_started started newest (cond b last m)
      go true = ap (λ (t : Bool). end_started started newest m && t) is ∙ both (end_started started newest last) refl
      go false = and-true (end_started started newest m)

  -- ---- the walk over what is stored: f tells the order that stands in a place

  module _ {A : Type 0} (f : A → Held) where
    abbrev starts : A → Bool
    starts e = own_started own started newest (f e)

    -- m is one past the stamp of the last of the host's own among those walked, of which o is the last
    abbrev pub Bounded : Option A → ℕ → Type 0
    Bounded None m = m ≡ 0
    Bounded (Some w) m = m ≤ (f w).stamp.0 + 1

    pub record Ended (l : List A) (o : Option A) (m : ℕ) (i : ℕ) : Type 0 where
      pub found : (end_started started newest m && all starts (drop i l)) ≡ all starts l
      pub below : Bounded o m

    below_next : (o : Option A) (x : A) (m : ℕ) → Bounded o m → follows (λ (p q : A). before (f p) (f q)) o x ≡ true → m ≤ (f x).stamp.0 + 1
    below_next None x m z q = omega (arith, z)
    below_next (Some w) x m z q = let y = before_stamp (f w) (f x) q in omega (arith, z)

    module _ {l : List A} {o : Option A} {m i : ℕ} (s : Ended l o m i) where
      pub end_turn : (x : A) {b : Bool} → drop i l ≡ x ∷ drop (i + 1) l → b ≡ follows (λ (p q : A). before (f p) (f q)) o x → b ≡ true
          → Ended l (Some x) (past_own own (f x) m) (i + 1)
      end_turn x next e q =
          record {
            found = rw (turn (f x) m low) at (all_turn starts (end_started started newest m) (starts x) next s.found refl);
            below = past (eqb (f x).source own);
          }
        where
          low : m ≤ (f x).stamp.0 + 1
          low = below_next o x m s.below (sym e ∙ q)

          past : (t : Bool) → cond t ((f x).stamp.0 + 1) m ≤ (f x).stamp.0 + 1
          past true = omega arith
          past false = low

      pub end_end : length l ≤ i → end_started started newest m ≡ all starts l
      end_end h = all_end starts (end_started started newest m) (left_none l i h) s.found
