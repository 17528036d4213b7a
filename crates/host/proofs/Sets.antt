-- A set of numbers that pass a test, made from its last bit down: a turn of the loop that makes it, how large it is, and what is in it.
-- Assumes nothing.
use mathlib.Core.Path.{◌≡◌, refl, sym, ap, ap₂, ◌∙◌}
use mathlib.Core.Bool.{Bool, true, false, not, cond, ◌&&◌, and-true}
use Prim.Native.Nat.{ℕ, zero, suc, ◌+◌, ◌-◌, ◌*◌, ◌/◌, ◌%◌, ◌^◌, ◌≤◌, ◌<◌, zero-le, suc-le-suc}
use native.Mathlib.Nat.{pow-succ', div-one, div-div-eq-div-mul}
use native.Mathlib.Omega.{arith}
use borrow.Author.Tests.{ne_eqb, le-leb, leb-true, lt-ltb, le-ltb, ltb-true, ltb-false}
use lib.Dec.{leb, ltb, eqb}
use lib.Pow.{pow_mono}
use Rattle.std.specs.Int.{from_bool}
use Rattle.network.specs.Network.{m, has}
use Rattle.network.specs.declared.Plan.{Plan}
use Rattle.network.proofs.Bits.{has_none}
use Rattle.host.specs.OwnLinks.{set_of, placed, ends, ends_but}

-- tests that agree below k make one set
pub set_same : (k : ℕ) (f g : ℕ → Bool) → ((i : ℕ) → i < k → f i ≡ g i) → set_of k f ≡ set_of k g
unfolding set_of
set_same zero f g e = refl
set_same (suc k) f g e =
    ap₂ (λ (t : Bool) (s : ℕ). cond t 1 0 + 2 * s) (e 0 (suc-le-suc zero-le)) (set_same k (λ i. f (suc i)) (λ i. g (suc i)) (λ i h. e (suc i) (suc-le-suc h)))

pub bit_is : (t : Bool) → from_bool t ≡ cond t 1 0
bit_is true = refl
bit_is false = refl

pub bit_most : (t : Bool) → cond t 1 0 ≤ 1
bit_most true = omega arith
bit_most false = omega arith

pub set_less : (k : ℕ) (f : ℕ → Bool) → set_of k f < 2 ^ k
unfolding set_of
set_less zero f = omega arith
set_less (suc k) f = rw (pow-succ' 2 k) (omega (arith, bit_most (f 0), set_less k (λ i. f (suc i))))

-- of 12 numbers at most
pub set_most : (k : ℕ) (f : ℕ → Bool) → k ≤ 12 → set_of k f ≤ 4095
set_most k f h = omega (arith, set_less k f, pow_mono h)

-- the numbers from i on are in the set s; with the one below
pub set_turn : (f : ℕ → Bool) (k i s b : ℕ) → 0 < i → i ≤ k → s ≡ set_of (k - i) (λ j. f (i + j)) → b ≡ cond (f (i - 1)) 1 0
    → b + 2 * s ≡ set_of (k - (i - 1)) (λ j. f ((i - 1) + j))
unfolding set_of
set_turn f k i s b low high es eb =
    let more : k - (i - 1) ≡ suc (k - i) = omega arith in
    let here : i - 1 ≡ (i - 1) + 0 = omega arith in
    ap₂ (λ (x y : ℕ). x + 2 * y) (eb ∙ ap (λ (x : ℕ). cond (f x) 1 0) here) (es ∙ set_same (k - i) (λ j. f (i + j)) (λ j. f ((i - 1) + suc j)) (λ j h. let e : i + j ≡ (i - 1) + suc j = omega arith in ap f e))
    ∙ ap (λ (x : ℕ). set_of x (λ j. f ((i - 1) + j))) (sym more)

pub set_none : (f : ℕ → Bool) (k i : ℕ) → k ≤ i → 0 ≡ set_of (k - i) (λ j. f (i + j))
unfolding set_of
set_none f k i h =
    let none : 0 ≡ k - i = omega arith in
    ap (λ (x : ℕ). set_of x (λ j. f (i + j))) none

pub set_whole : (f : ℕ → Bool) (k i s : ℕ) → i ≤ 0 → s ≡ set_of (k - i) (λ j. f (i + j)) → s ≡ set_of k f
set_whole f k i s h e =
    let whole : k - i ≡ k = omega arith in
    e ∙ ap (λ (x : ℕ). set_of x (λ j. f (i + j))) whole ∙ set_same k (λ j. f (i + j)) f (λ j l. let q : i + j ≡ j = omega arith in ap f q)

-- how many links have a place
pub placed_most : (p : Plan) → placed p ≤ 12
placed_most p = go (leb (m p) 12) refl
  where
    go : (t : Bool) → leb (m p) 12 ≡ t → cond t (m p) 12 ≤ 12
    go true e = leb-true (m p) 12 e
    go false e = omega arith

pub placed_all : (p : Plan) → m p ≤ 12 → placed p ≡ m p
placed_all p h = ap (λ (t : Bool). cond t (m p) 12) (le-leb (m p) 12 h)

-- all own links, asked for as all but one that no plan has
pub all_own : (p : Plan) (own k : ℕ) → k ≤ 12 → set_of k (ends_but p own 255) ≡ set_of k (ends p own)
all_own p own k h =
    set_same k (ends_but p own 255) (ends p own) (λ i l. let ne : i ≡ 255 → ⊥ = λ q. omega arith in ap (λ (t : Bool). ends p own i && not t) (ne_eqb i 255 ne) ∙ and-true (ends p own i))

-- ---- what is in the set

low_bit : (t : Bool) (s : ℕ) → (cond t 1 0 + 2 * s) % 2 ≡ cond t 1 0
low_bit true s = omega arith
low_bit false s = omega arith

high_bits : (t : Bool) (s : ℕ) → (cond t 1 0 + 2 * s) / 2 ≡ s
high_bits true s = omega arith
high_bits false s = omega arith

is_one : (t : Bool) → eqb (cond t 1 0) 1 ≡ t
is_one true = refl
is_one false = refl

pub set_has : (k : ℕ) (f : ℕ → Bool) (i : ℕ) → has (set_of k f) i ≡ (ltb i k && f i)
unfolding set_of has
set_has zero f i = has_none i ∙ sym (ap (λ (t : Bool). t && f i) (le-ltb i 0 zero-le))
set_has (suc k) f zero =
    ap (λ (x : ℕ). eqb (x % 2) 1) (div-one (cond (f 0) 1 0 + 2 * set_of k (λ j. f (suc j))))
    ∙ ap (λ (x : ℕ). eqb x 1) (low_bit (f 0) (set_of k (λ j. f (suc j)))) ∙ is_one (f 0) ∙ sym (ap (λ (t : Bool). t && f 0) (lt-ltb 0 (suc k) (suc-le-suc zero-le)))
set_has (suc k) f (suc i) =
    let s : ℕ = set_of k (λ j. f (suc j)) in
    ap (λ (x : ℕ). eqb ((cond (f 0) 1 0 + 2 * s) / x % 2) 1) (pow-succ' 2 i)
    ∙ ap (λ (x : ℕ). eqb (x % 2) 1) (sym (div-div-eq-div-mul (cond (f 0) 1 0 + 2 * s) 2 (2 ^ i)))
    ∙ ap (λ (x : ℕ). eqb (x / 2 ^ i % 2) 1) (high_bits (f 0) s)
    ∙ set_has k (λ j. f (suc j)) i
    ∙ ap (λ (t : Bool). t && f (suc i)) (below_suc i k)
  where
    below_suc : (i k : ℕ) → ltb i k ≡ ltb (suc i) (suc k)
    below_suc i k = go (ltb i k) refl
      where
        go : (t : Bool) → ltb i k ≡ t → t ≡ ltb (suc i) (suc k)
        go true e = sym (lt-ltb (suc i) (suc k) (suc-le-suc (ltb-true i k e)))
        go false e = sym (le-ltb (suc i) (suc k) (suc-le-suc (ltb-false i k e)))
