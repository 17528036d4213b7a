-- std's words for lists, and numbers in bytes, are those of the definitions. Assumes nothing.
use mathlib.Core.Path.{◌≡◌, refl, sym, ap, ap₂, ◌∙◌}
use mathlib.Core.Bool.{Bool, true, false, ◌&&◌}
use mathlib.Core.List.{List, [], ◌∷◌, ◌++◌}
use Prim.Native.Nat.{ℕ, zero, suc, ◌-◌, ◌/◌, ◌%◌, ◌^◌, ◌≤◌, ◌<◌, min}
use borrow.Author.Tests.{leb-true, leb-false}
use lib.Dec.{leb}
use lib.ListN.{length, take, drop, length-drop}
use lib.Seq.{take_all}
use native.Mathlib.Omega.{arith}
use native.Mathlib.Nat.{pow-succ', div-div-eq-div-mul}
use Rattle.std.specs.Int.{byte_at, bytes_high_first}
use Rattle.std.specs.List.{list_all}
use Rattle.lists.specs.Bytes.{be}
use Rattle.lists.specs.Lists.{all}
use Rattle.lists.proofs.Loops.{left_none}

pub all_same : {A : Type 0} (p : A → Bool) (l : List A) → list_all p l ≡ all p l
all_same p [] = refl
all_same p (x ∷ l) = ap (λ (t : Bool). p x && t) (all_same p l)

-- the places from used on, where there are so many
pub rest_same : {A : Type 0} (N used m : ℕ) (l : List A) → length l ≡ N → m ≡ min used N → take (N - m) (drop m l) ≡ drop used l
rest_same {A} N used m l n e =
    let d = length-drop m l in
    let long : length (drop m l) ≤ N - m = omega arith in
    take_all (N - m) (drop m l) long ∙ go (leb used N) refl
  where
    go : (t : Bool) → leb used N ≡ t → drop m l ≡ drop used l
    go true t = let h : used ≤ N = leb-true _ _ t in let k : m ≡ used = omega arith in ap (λ (i : ℕ). drop i l) k
    go false t = let h : N < used = leb-false _ _ t in let k : length l ≤ m = omega arith in let j : length l ≤ used = omega arith in left_none l m k ∙ sym (left_none l used j)

-- a byte of a number is one of its quotient by 256
byte_up : (k x : ℕ) → byte_at k (x / 256) ≡ byte_at (suc k) x
byte_up zero x = refl
byte_up (suc k) x =
    ap (λ (y : ℕ). y % 256) (div-div-eq-div-mul x 256 (256 ^ suc k)) ∙ ap (λ (y : ℕ). x / y % 256) (sym (pow-succ' 256 (suc k)))

bytes_up : (k x : ℕ) → bytes_high_first k (x / 256) ++ ((x % 256) ∷ []) ≡ bytes_high_first (suc k) x
bytes_up zero x = refl
bytes_up (suc k) x = ap₂ (λ (b : ℕ) (l : List ℕ). b ∷ l) (byte_up k x) (bytes_up k x)

pub be_same : (k x : ℕ) → bytes_high_first k x ≡ be k x
unfolding be
be_same zero x = refl
be_same (suc k) x = sym (bytes_up k x) ∙ ap (λ (l : List ℕ). l ++ ((x % 256) ∷ [])) (be_same k (x / 256))
