-- One turn of a search over sets in halves, as the code takes it: place i - 1 is settled next. Assumes nothing.
use mathlib.Core.Path.{◌≡◌, sym, ap, ◌∙◌, subst}
use mathlib.Core.Bool.{false, ◌||◌}
use Prim.Native.Nat.{ℕ, suc, ◌+◌, ◌-◌, ◌*◌, ◌%◌, ◌^◌, ◌≤◌, ◌<◌, max}
use native.Mathlib.Omega.{arith}
use borrow.Author.Tests.{eqb-false, leb-false}
use lib.Dec.{eqb, leb}
use lib.Count.{ones}
use Rattle.lists.specs.Searches.{largest}
use Rattle.lists.proofs.Bools.{or_left_lem, or_right}
use Rattle.network.specs.Network.{has}
use Rattle.network.specs.Inside.{Upper}
use Rattle.network.proofs.Bits.{top_is}
use Rattle.network.proofs.Halves.{absent, absent_here, without, with_it, sum_fits, in_halves, halted, lower_only}

-- what a turn has that is not the last
pub record Turn (i k most set : ℕ) : Type 0 where
  pub some_left : 0 < i
  pub place : i - 1 < k
  pub top : (1 * 2 ^ (i - 1)) % 2 ^ 32 ≡ 2 ^ (i - 1)
  pub fits : set + (1 * 2 ^ (i - 1)) % 2 ^ 32 < 2 ^ 32
  pub here : Upper (suc (i - 1)) k most set
  pub not_in : has set (i - 1) ≡ false
  pub next_without : Upper (i - 1) k most set
  pub next_with : Upper (i - 1) k most (set + (1 * 2 ^ (i - 1)) % 2 ^ 32)

pub turn : (i k most set : ℕ) → Upper i k most set → (eqb i 0 || leb most (ones set)) ≡ false → k ≤ 12 → Turn i k most set
turn i k most set u going narrow =
    let none = eqb-false i 0 (or_left_lem (eqb i 0) _ going) in
    let some_left : 0 < i = omega arith in
    let up : suc (i - 1) ≡ i = omega arith in
    let high = u.places in
    let top = top_is (i - 1) (omega arith) in
    let here = subst (λ (x : ℕ). Upper x k most set) (sym up) u in
    record {
      some_left = some_left;
      place = omega arith;
      top = top;
      fits = subst (λ (x : ℕ). set + x < 2 ^ 32) (sym top) (sum_fits (i - 1) k most set here narrow);
      here = here;
      not_in = absent_here (i - 1) k most set here;
      next_without = without (i - 1) k most set here;
      next_with = with_it (i - 1) k most set here _ top (leb-false most (ones set) (or_right (eqb i 0) _ going));
    }

module _ {i k most set : ℕ} (s : Turn i k most set) (f : ℕ → ℕ) where
  to_i : largest (2 ^ suc (i - 1)) (λ j. f (set + j)) ≡ largest (2 ^ i) (λ j. f (set + j))
  to_i = let h = s.some_left in let up : suc (i - 1) ≡ i = omega arith in ap (λ (x : ℕ). largest (2 ^ x) (λ j. f (set + j))) up

  -- the bound is met with the place in the set
  pub stops : (n : ℕ) {d : ℕ} → ((x : ℕ) → f x ≤ n) → n ≤ d → d ≡ largest (2 ^ (i - 1)) (λ j. f (set + (1 * 2 ^ (i - 1)) % 2 ^ 32 + j)) → d ≡ largest (2 ^ i) (λ j. f (set + j))
  stops n {d} low h e = halted (i - 1) k most set s.here f _ s.top n d low h e ∙ to_i

  -- with the place in the set nothing is larger
  pub skips : {r : ℕ} → ((x : ℕ) → has x (i - 1) ≡ false → f (x + 2 ^ (i - 1)) ≤ f x) → r ≡ largest (2 ^ (i - 1)) (λ j. f (set + j)) → r ≡ largest (2 ^ i) (λ j. f (set + j))
  skips low e = e ∙ sym (lower_only (i - 1) k most set s.here f _ s.top (λ j h. low (set + j) (absent (i - 1) k most set s.here j h))) ∙ to_i

  -- both halves are tried
  pub meets : {r x y : ℕ} → r ≡ max x y → x ≡ largest (2 ^ (i - 1)) (λ j. f (set + (1 * 2 ^ (i - 1)) % 2 ^ 32 + j)) → y ≡ largest (2 ^ (i - 1)) (λ j. f (set + j))
      → r ≡ largest (2 ^ i) (λ j. f (set + j))
  meets {r} {x} {y} er ex ey =
      let halves = in_halves (i - 1) k most set s.here f _ s.top in
      let all = to_i in
      omega (arith, er, ex, ey, halves, all)
