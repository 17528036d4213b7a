-- Sets in halves: a set that has no place below l + 1 stands for the sets with the same places from there on. Half of these have place l,
-- half have not, and where the set is full it stands for itself alone. Assumes nothing.
use mathlib.Core.Path.{◌≡◌, refl, sym, ap, ap₂, ◌∙◌, fun_ext}
use mathlib.Core.Bool.{Bool, true, false, cond, ◌||◌}
use mathlib.Core.Logic.{⊎_elim}
use Prim.Native.Nat.{ℕ, zero, suc, ◌+◌, ◌*◌, ◌/◌, ◌%◌, ◌^◌, ◌≤◌, ◌<◌, zero-le, max}
use native.Mathlib.Nat.{add-zero, zero-add, add_assoc, add-mul, mul_assoc, mul_comm, mul-mod_left, zero-mod, one-mul, pow-suc, div-add-mod', le_refl, le_trans, le_of_eq, le-suc, le_antisymm, not-suc-le-zero}
use native.Mathlib.Omega.{arith}
use borrow.Author.Tests.{eqb-true, eqb-false, leb-true, le-leb, lt-leb}
use lib.Arith.{bin_ind}
use lib.Dec.{eqb, leb}
use lib.Count.{ones, ones_step, ones_cat}
use lib.Pow.{high, pow_pos, pow_mono}
use Rattle.lists.specs.Searches.{largest}
use Rattle.lists.proofs.Bools.{or_cases}
use Rattle.lists.proofs.SearchLaws.{largest_le, le_largest}
use Rattle.network.specs.Network.{has}
use Rattle.network.specs.Inside.{Upper}
use Rattle.network.proofs.Bits.{ones_plus}

-- ---- the largest of two halves, and of a first value alone

pub largest_halves : (a b : ℕ) (f : ℕ → ℕ) → largest (a + b) f ≡ max (largest b (λ j. f (a + j))) (largest a f)
unfolding largest
largest_halves a zero f = ap (λ (x : ℕ). largest x f) (add-zero a) ∙ sym (zero_max_is (largest a f))
  where
    zero_max_is : (x : ℕ) → max 0 x ≡ x
    zero_max_is x = omega arith
largest_halves a (suc b) f =
    let up : a + suc b ≡ suc (a + b) = omega arith in
    ap (λ (x : ℕ). largest x f) up
    ∙ ap (λ (x : ℕ). max (f (a + b)) x) (largest_halves a b f)
    ∙ assoc (f (a + b)) (largest b (λ j. f (a + j))) (largest a f)
  where
    assoc : (x y z : ℕ) → max x (max y z) ≡ max (max x y) z
    assoc x y z = omega arith

pub from_zero : (k : ℕ) (f : ℕ → ℕ) → largest k (λ j. f (0 + j)) ≡ largest k f
from_zero k f = ap (largest k) (fun_ext (λ j. ap f (zero-add j)))

largest_first : (k : ℕ) (f : ℕ → ℕ) → 0 < k → ((j : ℕ) → 0 < j → j < k → f j ≡ 0) → largest k f ≡ f 0
largest_first k f h e = le_antisymm (largest_le f k (f 0) at) (le_largest f k 0 h)
  where
    at : (j : ℕ) → j < k → f j ≤ f 0
    at zero l = le_refl (f 0)
    at (suc j) l = le_trans (le_of_eq (e (suc j) (omega arith) l)) zero-le

-- ---- a set without places below i

ones_some : (x : ℕ) → 0 < x → 0 < ones x
ones_some = bin_ind (λ (x : ℕ). 0 < x → 0 < ones x) (λ h. absurd (not-suc-le-zero h)) (λ x ih h. go x ih h (eqb (x % 2) 0) refl)
  where
    go : (x : ℕ) → (0 < x / 2 → 0 < ones (x / 2)) → 0 < x → (t : Bool) → eqb (x % 2) 0 ≡ t → 0 < ones x
    go x ih h true e = let low = eqb-true (x % 2) 0 e in let s = ones_step x in let rest = ih (omega arith) in omega (arith, s, rest)
    go x ih h false e = let low = eqb-false (x % 2) 0 e in let s = ones_step x in omega (arith, s)

multiple : (i set : ℕ) → set % 2 ^ i ≡ 0 → set ≡ set / 2 ^ i * 2 ^ i
multiple i set e = sym (ap (λ (x : ℕ). set / 2 ^ i * 2 ^ i + x) (sym e) ∙ div-add-mod' set (2 ^ i)) ∙ add-zero (set / 2 ^ i * 2 ^ i)

ones_above : (i set j : ℕ) → set % 2 ^ i ≡ 0 → j < 2 ^ i → ones (set + j) ≡ ones set + ones j
unfolding ones
ones_above i set j e h =
    let q = set / 2 ^ i in
    let is = multiple i set e in
    let alone : ones set ≡ ones q = ap ones (is ∙ sym (add-zero (q * 2 ^ i))) ∙ ones_cat i q 0 (pow_pos i) ∙ add-zero (ones q) in
    ap (λ (x : ℕ). ones (x + j)) is ∙ ones_cat i q j h ∙ ap (λ (x : ℕ). x + ones j) (sym alone)

pub upper_start : (k most : ℕ) → Upper k k most 0
unfolding ones
upper_start k most = record { places = le_refl k; fits = le_of_eq (zero-add (2 ^ k)); none_below = zero-mod (2 ^ k); few = zero-le }

-- nothing is below i, or the set is full
pub full : (i k most set : ℕ) → Upper i k most set → (eqb i 0 || leb most (ones set)) ≡ true → (g : ℕ → ℕ)
    → largest (2 ^ i) (λ j. cond (leb (ones (set + j)) most) (g (set + j)) 0) ≡ g set
full i k most set u e g =
    largest_first (2 ^ i) _ (pow_pos i) (λ j h l. ap (λ (t : Bool). cond t (g (set + j)) 0) (lt-leb (ones (set + j)) most (more j h l)))
    ∙ ap (λ (x : ℕ). cond (leb (ones x) most) (g x) 0) (add-zero set)
    ∙ ap (λ (t : Bool). cond t (g set) 0) (le-leb (ones set) most u.few)
  where
    more : (j : ℕ) → 0 < j → j < 2 ^ i → most < ones (set + j)
    more j h l =
        ⊎_elim (λ q. absurd (let one : 2 ^ i ≡ 1 = ap (λ (x : ℕ). 2 ^ x) (eqb-true i 0 q) in omega arith))
        (λ q. let all = leb-true most (ones set) q in let new = ones_some j h in let sum = ones_above i set j u.none_below l in omega (arith, all, new, sum))
        (or_cases (eqb i 0) _ e)

module _ (l k most set : ℕ) (u : Upper (suc l) k most set) where
  q : ℕ
  q = set / 2 ^ suc l

  twice : 2 ^ suc l ≡ 2 ^ l * 2
  twice = pow-suc 2 l

  is : set ≡ q * 2 * 2 ^ l
  unfolding q
  is =
      multiple (suc l) set u.none_below
      ∙ ap (λ (x : ℕ). q * x) (twice ∙ mul_comm (2 ^ l) 2) ∙ sym (mul_assoc q 2 (2 ^ l))

  -- place l is in none of the lower half
  pub absent : (j : ℕ) → j < 2 ^ l → has (set + j) l ≡ false
  unfolding has
  absent j h =
      ap (λ (x : ℕ). eqb ((x + j) / 2 ^ l % 2) 1) is ∙ ap (λ (x : ℕ). eqb (x % 2) 1) (high (q * 2) l h) ∙ ap (λ (x : ℕ). eqb x 1) (mul-mod_left q 2)

  pub absent_here : has set l ≡ false
  absent_here = ap (λ (x : ℕ). has x l) (sym (add-zero set)) ∙ absent 0 (pow_pos l)

  pub without : Upper l k most set
  without =
      let low = u.fits in
      record {
        places = le_trans (le-suc l) u.places;
        fits = omega (arith, twice, low);
        none_below = ap (λ (x : ℕ). x % 2 ^ l) is ∙ mul-mod_left (q * 2) (2 ^ l);
        few = u.few;
      }

  pub with_it : (t : ℕ) → t ≡ 2 ^ l → ones set < most → Upper l k most (set + t)
  with_it t e h =
      let low = u.fits in
      record {
        places = le_trans (le-suc l) u.places;
        fits = omega (arith, twice, low, e);
        none_below =
            ap₂ (λ (x y : ℕ). (x + y) % 2 ^ l) is (e ∙ sym (one-mul (2 ^ l))) ∙ ap (λ (x : ℕ). x % 2 ^ l) (sym (add-mul (q * 2) 1 (2 ^ l)))
            ∙ mul-mod_left (q * 2 + 1) (2 ^ l);
        few = le_trans (le_of_eq (ap (λ (x : ℕ). ones (set + x)) e ∙ ones_plus l set absent_here)) h;
      }

  pub sum_fits : k ≤ 12 → set + 2 ^ l < 2 ^ 32
  sum_fits h = let low = u.fits in let top : 2 ^ k ≤ 2 ^ 12 = pow_mono h in let some = pow_pos l in omega (arith, twice, low, top, some)

  module _ (f : ℕ → ℕ) (t : ℕ) (e : t ≡ 2 ^ l) where
    pub in_halves : largest (2 ^ suc l) (λ j. f (set + j)) ≡ max (largest (2 ^ l) (λ j. f (set + t + j))) (largest (2 ^ l) (λ j. f (set + j)))
    in_halves =
        let both : 2 ^ suc l ≡ 2 ^ l + 2 ^ l = omega (arith, twice) in
        ap (λ (x : ℕ). largest x (λ j. f (set + j))) both
        ∙ largest_halves (2 ^ l) (2 ^ l) (λ j. f (set + j))
        ∙ ap (λ (g : ℕ → ℕ). max (largest (2 ^ l) g) (largest (2 ^ l) (λ j. f (set + j))))
        (fun_ext (λ j. ap f (ap (λ (x : ℕ). set + (x + j)) (sym e) ∙ sym (add_assoc set t j))))

    -- a search that has met the bound stops
    pub halted : (n d : ℕ) → ((x : ℕ) → f x ≤ n) → n ≤ d → d ≡ largest (2 ^ l) (λ j. f (set + t + j)) → d ≡ largest (2 ^ suc l) (λ j. f (set + j))
    halted n d low h is-d =
        let rest = largest_le (λ j. f (set + j)) (2 ^ l) n (λ j q. low (set + j)) in
        let half = in_halves in
        omega (arith, rest, half, is-d, h)

    -- the upper half has nothing larger
    pub lower_only : ((j : ℕ) → j < 2 ^ l → f (set + j + 2 ^ l) ≤ f (set + j)) → largest (2 ^ suc l) (λ j. f (set + j)) ≡ largest (2 ^ l) (λ j. f (set + j))
    lower_only low =
        let less = largest_le (λ j. f (set + t + j)) (2 ^ l) (largest (2 ^ l) (λ j. f (set + j)))
        (λ j h. le_trans (le_of_eq (ap f (moved j))) (le_trans (low j h) (le_largest (λ j. f (set + j)) (2 ^ l) j h))) in
        let half = in_halves in
        omega (arith, less, half)
      where
        moved : (j : ℕ) → set + t + j ≡ set + j + 2 ^ l
        moved j = omega (arith, e)
