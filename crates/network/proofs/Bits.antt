-- The bits of a number, as `has` reads them: of the operations on numbers that hold sets, and of a number with one bit more. Assumes nothing.
use mathlib.Core.Path.{◌≡◌, refl, sym, ap, ap₂, ◌∙◌}
use mathlib.Core.Bool.{Bool, true, false, not, ◌&&◌, ◌||◌, or_comm}
use Prim.Native.Nat.{ℕ, zero, suc, ◌+◌, ◌-◌, ◌*◌, ◌/◌, ◌%◌, ◌^◌, ◌≤◌, ◌<◌}
use native.Mathlib.Nat.{one-mul, zero-add, div-one, div-eq_of_lt, mod-lt, pow-suc, lt_of_lt_of_le, zero-lt-suc, le_of_suc-le-suc, not-suc-le-zero, zero-div}
use native.Mathlib.Numerals.{one-add}
use native.Mathlib.Omega.{arith}
use borrow.Author.Tests.{eqb-true, eqb-false, eq-eqb}
use lib.Dec.{eqb, lit<, eqb-zero-suc, eqb-suc-zero, eqb-suc-suc}
use lib.Count.{ones, ones_step}
use lib.Pow.{shl_exact, shr-shr, pow_mono}
use lib.Bits.{bit_and, bit_or, and_shr, and_mod, or_shr, or_mod}
use Rattle.network.specs.Network.{has}

-- the lowest bit, and the others
pub has_low : (set : ℕ) → has set 0 ≡ eqb (set % 2) 1
unfolding has
has_low set = ap (λ (x : ℕ). eqb (x % 2) 1) (div-one set)

pub has_high : (set i : ℕ) → has set (suc i) ≡ has (set / 2) i
unfolding has
has_high set i = ap (λ (x : ℕ). eqb (set / 2 ^ x % 2) 1) (sym (one-add i)) ∙ ap (λ (x : ℕ). eqb (x % 2) 1) (sym (shr-shr set 1 i))

pub has_shr : (set k i : ℕ) → has (set / 2 ^ k) i ≡ has set (k + i)
unfolding has
has_shr set k i = ap (λ (x : ℕ). eqb (x % 2) 1) (shr-shr set k i)

-- ---- the operations on sets

or_digit : (x y : ℕ) → x < 2 → y < 2 → eqb (bit_or x y) 1 ≡ (eqb x 1 || eqb y 1)
or_digit zero y h l = refl
or_digit (suc zero) zero h l = refl
or_digit (suc zero) (suc zero) h l = refl
or_digit (suc zero) (suc (suc y)) h l = absurd (not-suc-le-zero (le_of_suc-le-suc (le_of_suc-le-suc l)))
or_digit (suc (suc x)) y h l = absurd (not-suc-le-zero (le_of_suc-le-suc (le_of_suc-le-suc h)))

and_digit : (x y : ℕ) → x < 2 → y < 2 → eqb (bit_and x y) 1 ≡ (eqb x 1 && eqb y 1)
and_digit zero y h l = refl
and_digit (suc zero) zero h l = refl
and_digit (suc zero) (suc zero) h l = refl
and_digit (suc zero) (suc (suc y)) h l = absurd (not-suc-le-zero (le_of_suc-le-suc (le_of_suc-le-suc l)))
and_digit (suc (suc x)) y h l = absurd (not-suc-le-zero (le_of_suc-le-suc (le_of_suc-le-suc h)))

digit_lt : (x i : ℕ) → x / 2 ^ i % 2 < 2
digit_lt x i = mod-lt (x / 2 ^ i) (zero-lt-suc 1)

pub has_or : (s t i : ℕ) → has (bit_or s t) i ≡ (has s i || has t i)
unfolding has
has_or s t i =
    ap (λ (x : ℕ). eqb x 1) (ap (λ (x : ℕ). x % 2) (or_shr s t i) ∙ or_mod (s / 2 ^ i) (t / 2 ^ i) 1)
    ∙ or_digit (s / 2 ^ i % 2) (t / 2 ^ i % 2) (digit_lt s i) (digit_lt t i)

-- a set with another put in
pub has_more : (s t i : ℕ) → has (bit_or s t) i ≡ (has t i || has s i)
has_more s t i = has_or s t i ∙ or_comm (has s i) (has t i)

pub has_and : (s t i : ℕ) → has (bit_and s t) i ≡ (has s i && has t i)
unfolding has
has_and s t i =
    ap (λ (x : ℕ). eqb x 1) (ap (λ (x : ℕ). x % 2) (and_shr s t i) ∙ and_mod (s / 2 ^ i) (t / 2 ^ i) 1)
    ∙ and_digit (s / 2 ^ i % 2) (t / 2 ^ i % 2) (digit_lt s i) (digit_lt t i)

not_digit : (x : ℕ) → x < 2 → eqb (1 - x) 1 ≡ not (eqb x 1)
not_digit zero h = refl
not_digit (suc zero) h = refl
not_digit (suc (suc x)) h = absurd (not-suc-le-zero (le_of_suc-le-suc (le_of_suc-le-suc h)))

pub has_not : (w s i : ℕ) → s < 2 ^ w → i < w → has ((2 ^ w - 1) - s) i ≡ not (has s i)
has_not zero s i h l = absurd (not-suc-le-zero l)
has_not (suc w) s zero h l =
    let twice : 2 ^ suc w ≡ 2 ^ w * 2 = pow-suc 2 w in
    let odd : ((2 ^ suc w - 1) - s) % 2 ≡ 1 - s % 2 = omega arith in
    has_low _ ∙ ap (λ (x : ℕ). eqb x 1) odd ∙ not_digit (s % 2) (mod-lt s (zero-lt-suc 1)) ∙ ap not (sym (has_low s))
has_not (suc w) s (suc i) h l =
    let twice : 2 ^ suc w ≡ 2 ^ w * 2 = pow-suc 2 w in
    let half : ((2 ^ suc w - 1) - s) / 2 ≡ (2 ^ w - 1) - s / 2 = omega arith in
    has_high _ i ∙ ap (λ (x : ℕ). has x i) half ∙ has_not w (s / 2) i (omega arith) (le_of_suc-le-suc l) ∙ ap not (sym (has_high s i))

-- ---- nothing is in the empty set, nor is a place past the number's width in a set

pub has_none : (i : ℕ) → has 0 i ≡ false
unfolding has
has_none i = ap (λ (x : ℕ). eqb (x % 2) 1) (zero-div (2 ^ i))

pub has_past : (set i : ℕ) → set < 2 ^ 32 → 32 ≤ i → has set i ≡ false
unfolding has
has_past set i small h = ap (λ (x : ℕ). eqb (x % 2) 1) (div-eq_of_lt (lt_of_lt_of_le small (pow_mono h)))

-- ---- a set with one place more

even : (x : ℕ) → has x 0 ≡ false → x % 2 ≡ 0
even x e = let no = eqb-false (x % 2) 1 (sym (has_low x) ∙ e) in omega arith

pub has_plus : (l x i : ℕ) → has x l ≡ false → has (x + 2 ^ l) i ≡ (eqb i l || has x i)
has_plus zero x zero e =
    let low = even x e in
    let odd : (x + 1) % 2 ≡ 1 = omega arith in
    has_low (x + 1) ∙ eq-eqb ((x + 1) % 2) 1 odd
has_plus zero x (suc i) e =
    let low = even x e in
    let half : (x + 1) / 2 ≡ x / 2 = omega arith in
    has_high _ i ∙ ap (λ (y : ℕ). has y i) half ∙ sym (has_high x i) ∙ ap (λ (t : Bool). t || has x (suc i)) (sym (eqb-suc-zero i))
has_plus (suc l) x zero e =
    let twice : 2 ^ suc l ≡ 2 ^ l * 2 = pow-suc 2 l in
    let low : (x + 2 ^ suc l) % 2 ≡ x % 2 = omega arith in
    has_low _ ∙ ap (λ (y : ℕ). eqb y 1) low ∙ sym (has_low x) ∙ ap (λ (t : Bool). t || has x 0) (sym (eqb-zero-suc l))
has_plus (suc l) x (suc i) e =
    let twice : 2 ^ suc l ≡ 2 ^ l * 2 = pow-suc 2 l in
    let half : (x + 2 ^ suc l) / 2 ≡ x / 2 + 2 ^ l = omega arith in
    has_high _ i ∙ ap (λ (y : ℕ). has y i) half ∙ has_plus l (x / 2) i (sym (has_high x l) ∙ e)
    ∙ ap₂ (λ (s t : Bool). s || t) (sym (eqb-suc-suc i l)) (sym (has_high x i))

pub ones_plus : (l x : ℕ) → has x l ≡ false → ones (x + 2 ^ l) ≡ suc (ones x)
ones_plus zero x e =
    let low = even x e in
    let half : (x + 1) / 2 ≡ x / 2 = omega arith in
    let odd : (x + 1) % 2 ≡ 1 = omega arith in
    let more = ones_step (x + 1) ∙ ap₂ (λ (y z : ℕ). y + ones z) odd half in
    let less = ones_step x in
    omega (arith, more, less, low)
ones_plus (suc l) x e =
    let twice : 2 ^ suc l ≡ 2 ^ l * 2 = pow-suc 2 l in
    let half : (x + 2 ^ suc l) / 2 ≡ x / 2 + 2 ^ l = omega arith in
    let low : (x + 2 ^ suc l) % 2 ≡ x % 2 = omega arith in
    let more = ones_step (x + 2 ^ suc l) ∙ ap₂ (λ (y z : ℕ). y + ones z) low half in
    let less = ones_step x in
    let rest = ones_plus l (x / 2) (sym (has_high x l) ∙ e) in
    omega (arith, more, less, rest)

-- `1 << m` does not lose its bit
shl_one : (w l : ℕ) → l < w → (1 * 2 ^ l) % 2 ^ w ≡ 2 ^ l
shl_one w l h = shl_exact 1 l w (lit< tt) (omega arith) ∙ one-mul (2 ^ l)

pub top_is : (m : ℕ) → m < 32 → (1 * 2 ^ m) % 2 ^ 32 ≡ 2 ^ m
top_is m h = shl_one 32 m h

pub has_top : (w l i : ℕ) → l < w → has ((1 * 2 ^ l) % 2 ^ w) i ≡ eqb i l
has_top w l i h =
    ap (λ (x : ℕ). has x i) (shl_one w l h ∙ sym (zero-add (2 ^ l)))
    ∙ has_plus l 0 i (has_none l) ∙ ap (λ (t : Bool). eqb i l || t) (has_none i) ∙ no (eqb i l)
  where
    no : (t : Bool) → (t || false) ≡ t
    no true = refl
    no false = refl

-- ---- numbers with the same bits are the same

digit_same : (x y : ℕ) → x < 2 → y < 2 → eqb x 1 ≡ eqb y 1 → x ≡ y
digit_same zero zero h l e = refl
digit_same (suc zero) (suc zero) h l e = refl
digit_same zero (suc zero) h l e = absurd (eqb-false 0 1 refl (eqb-true 0 1 e))
digit_same (suc zero) zero h l e = absurd (eqb-false 0 1 refl (eqb-true 0 1 (sym e)))
digit_same (suc (suc x)) y h l e = absurd (not-suc-le-zero (le_of_suc-le-suc (le_of_suc-le-suc h)))
digit_same zero (suc (suc y)) h l e = absurd (not-suc-le-zero (le_of_suc-le-suc (le_of_suc-le-suc l)))
digit_same (suc zero) (suc (suc y)) h l e = absurd (not-suc-le-zero (le_of_suc-le-suc (le_of_suc-le-suc l)))

pub same_bits : (w x y : ℕ) → x < 2 ^ w → y < 2 ^ w → ((i : ℕ) → i < w → has x i ≡ has y i) → x ≡ y
same_bits zero x y h l e = let one : 2 ^ 0 ≡ 1 = refl in omega arith
same_bits (suc w) x y h l e =
    let twice : 2 ^ suc w ≡ 2 ^ w * 2 = pow-suc 2 w in
    let low = digit_same (x % 2) (y % 2) (omega arith) (omega arith) (sym (has_low x) ∙ e 0 (zero-lt-suc w) ∙ has_low y) in
    let high = same_bits w (x / 2) (y / 2) (omega arith) (omega arith) (λ i q. sym (has_high x i) ∙ e (suc i) (omega arith) ∙ has_high y i) in
    omega (arith, low, high)
