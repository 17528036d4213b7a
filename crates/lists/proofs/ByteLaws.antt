-- Numbers in bytes, over the width: how long they are, what a byte more makes of them, and that reading and writing undo each other.
-- Assumes nothing.
use mathlib.Core.Path.{◌≡◌, refl, sym, ap, subst, ◌∙◌}
use mathlib.Core.List.{List, [], ◌∷◌, ◌++◌, append_assoc}
use Prim.Native.Nat.{ℕ, zero, suc, ◌+◌, ◌-◌, ◌*◌, ◌/◌, ◌%◌, ◌^◌, ◌<◌, ◌≤◌}
use native.Mathlib.Nat.{add-zero, zero-add, pow-suc, pow-le-pow_right, div-add-mod', div-lt_iff_lt-mul, mod-lt}
use native.Mathlib.Numerals.{add-one, sub-one}
use native.Mathlib.Omega.{arith}
use lib.Arith.{digits_lt, digits_div, digits_mod}
use lib.Dec.{lit<}
use lib.ListN.{length, get_or, take, drop, length-append, length-drop}
use lib.Seq.{take-suc, take-add, drop-drop, get_or-drop, get_or-append-add, get_or_at}
use Rattle.lists.specs.Bytes.{be, val_at}

-- every element is a byte
abbrev pub Bytes : List ℕ → Type 0
Bytes bs = (i : ℕ) → get_or bs i 0 < 256

-- ---- writing

pub length_be : (k x : ℕ) → length (be k x) ≡ k
unfolding be
length_be zero x = refl
length_be (suc k) x = length-append (be k (x / 256)) ((x % 256) ∷ []) ∙ ap (λ (n : ℕ). n + 1) (length_be k (x / 256)) ∙ add-one k

pub be_none : (k x : ℕ) → k ≡ 0 → be k x ≡ []
unfolding be
be_none k x e = ap (λ (n : ℕ). be n x) e

pub be_more : (k x : ℕ) → 0 < k → be k x ≡ be (k - 1) (x / 256) ++ ((x % 256) ∷ [])
unfolding be
be_more zero x h = absurd (omega arith)
be_more (suc k) x h = ap (λ (n : ℕ). be n (x / 256) ++ ((x % 256) ∷ [])) (sym (sub-one (suc k)))

append_bytes : (xs ys : List ℕ) → Bytes xs → Bytes ys → Bytes (xs ++ ys)
append_bytes [] ys p q i = q i
append_bytes (x ∷ xs) ys p q zero = p 0
append_bytes (x ∷ xs) ys p q (suc i) = append_bytes xs ys (λ j. p (suc j)) q i

pub bytes_be : (k x : ℕ) → Bytes (be k x)
unfolding be
bytes_be zero x i = lit< tt
bytes_be (suc k) x i = append_bytes (be k (x / 256)) ((x % 256) ∷ []) (bytes_be k (x / 256)) last i
  where
    last : Bytes ((x % 256) ∷ [])
    last zero = mod-lt x (lit< tt)
    last (suc i) = lit< tt

-- ---- reading

pub val_none : (bs : List ℕ) (at : ℕ) → val_at bs at 0 ≡ 0
unfolding val_at
val_none bs at = refl

pub val_more : (bs : List ℕ) (at i : ℕ) → val_at bs at (i + 1) ≡ val_at bs at i * 256 + get_or bs (at + i) 0
unfolding val_at
val_more bs at i = ap (λ (k : ℕ). val_at bs at k) (add-one i)

pub val_one : (bs : List ℕ) (at : ℕ) → val_at bs at 1 ≡ get_or bs at 0
unfolding val_at
val_one bs at = zero-add (get_or bs (at + 0) 0) ∙ ap (λ (n : ℕ). get_or bs n 0) (add-zero at)

pub val_lt : (bs : List ℕ) → Bytes bs → (at k : ℕ) → val_at bs at k < 256 ^ k
unfolding val_at
val_lt bs small at zero = lit< tt
val_lt bs small at (suc k) =
    subst (λ (n : ℕ). val_at bs at k * 256 + get_or bs (at + k) 0 < n) (sym (pow-suc 256 k)) (digits_lt (val_lt bs small at k) (small (at + k)))

-- a byte more, and that it still fits 64 bits
pub digit_lt : (x b i : ℕ) → x < 256 ^ i → b < 256 → x * 256 + b < 256 ^ (i + 1)
digit_lt x b i h k = subst (λ (n : ℕ). x * 256 + b < n) (sym (ap (λ (j : ℕ). 256 ^ j) (add-one i) ∙ pow-suc 256 i)) (digits_lt h k)

pub digit_fits : (x b i : ℕ) → i < 8 → x < 256 ^ i → b < 256 → x * 256 + b < 2 ^ 64
digit_fits x b i h k d =
    let e : x * 256 + b < 256 ^ (i + 1) = digit_lt x b i k d in
    let l : 256 ^ (i + 1) ≤ 2 ^ 64 = pow-le-pow_right {n = 256} (lit< tt) {i = i + 1} {j = 8} (omega arith) in
    omega arith

-- ---- the two undo each other

-- the n bytes from a place on
abbrev pub part : List ℕ → ℕ → ℕ → List ℕ
part bs at n = take n (drop at bs)

pub part_add : (bs : List ℕ) (at n m : ℕ) → part bs at n ++ part bs (at + n) m ≡ part bs at (n + m)
part_add bs at n m = ap (λ (r : List ℕ). take n (drop at bs) ++ take m r) (sym (drop-drop n at bs)) ∙ sym (take-add n m (drop at bs))

-- writing back what was read
pub be_val : (bs : List ℕ) → Bytes bs → (at k : ℕ) → at + k ≤ length bs → be k (val_at bs at k) ≡ part bs at k
unfolding be val_at
be_val bs small at zero h = refl
be_val bs small at (suc k) h =
    let b : ℕ = get_or bs (at + k) 0 in
    let q : ℕ = val_at bs at k in
    let inside : k < length (drop at bs) = subst (λ (n : ℕ). k < n) (sym (length-drop at bs)) (omega arith) in
    ap (λ (n : ℕ). be k n ++ (((q * 256 + b) % 256) ∷ [])) (digits_div q (small (at + k)))
    ∙ ap (λ (n : ℕ). be k q ++ (n ∷ [])) (digits_mod q (small (at + k)))
    ∙ ap (λ (r : List ℕ). r ++ (b ∷ [])) (be_val bs small at k (omega arith))
    ∙ ap (λ (n : ℕ). part bs at k ++ (n ∷ [])) (sym (get_or-drop at bs k 0))
    ∙ sym (take-suc (drop at bs) k 0 inside)

-- reading back what was written
pub val_be : (k x : ℕ) (xs ys bs : List ℕ) (at : ℕ) → x < 256 ^ k → bs ≡ xs ++ (be k x ++ ys) → length xs ≡ at → val_at bs at k ≡ x
unfolding be val_at
val_be zero x xs ys bs at h e l = omega arith
val_be (suc k) x xs ys bs at h e l =
    let small : x / 256 < 256 ^ k =
    (div-lt_iff_lt-mul {k = 256} {x = x} {y = 256 ^ k} (lit< tt)).1 (subst (λ (n : ℕ). x < n) (pow-suc 256 k) h) in
    let split : bs ≡ xs ++ (be k (x / 256) ++ ((x % 256) ∷ ys)) =
    e ∙ ap (λ (r : List ℕ). xs ++ r) (append_assoc (be k (x / 256)) ((x % 256) ∷ []) ys) in
    let rest : List ℕ = be k (x / 256) ++ ((x % 256) ∷ ys) in
    let digit : get_or bs (at + k) 0 ≡ x % 256 =
    ap (λ (r : List ℕ). get_or r (at + k) 0) split
    ∙ ap (λ (n : ℕ). get_or (xs ++ rest) (n + k) 0) (sym l)
    ∙ get_or-append-add xs rest k 0
    ∙ get_or_at (be k (x / 256)) (x % 256) ys 0 k (length_be k (x / 256)) in
    ap (λ (n : ℕ). n * 256 + get_or bs (at + k) 0) (val_be k (x / 256) xs ((x % 256) ∷ ys) bs at small split l)
    ∙ ap (λ (n : ℕ). x / 256 * 256 + n) digit
    ∙ div-add-mod' x 256
