-- The places of an array moved to the front. Assumes nothing.
use mathlib.Core.Path.{◌≡◌, sym, ap, ap₂, ◌∙◌}
use mathlib.Core.List.{List, [], ◌++◌, append-nil}
use Prim.Native.Nat.{ℕ, ◌+◌, ◌-◌, ◌≤◌}
use native.Mathlib.Nat.{zero-add}
use native.Mathlib.Omega.{arith}
use lib.ListN.{length, length-append, length-drop, take, drop, replicate, drop_of_length-le}
use lib.Seq.{length-take-le, take_at, paste}
use borrow.Rule.Slice.PartMut.{put_mid}
use Rattle.std.proofs.lemmas.Slice.{between_is}
use Rattle.lists.specs.Lists.{pad}

-- those from count up to held moved to the front, and all behind them set to z
pub left_behind : {A : Type 0} (l : List A) (z : A) (N count held : ℕ) → length l ≡ N → count ≤ held → held ≤ N → (copied behind : List A) → copied ≡ paste l 0 (drop count l) (held - count)
    → behind ≡ replicate (N - (held - count)) z → put_mid (held - count) (N - (held - count)) copied behind ≡ pad N z (drop count (take held l))
left_behind {A} l z N count held long le few copied behind e r =
    let w : ℕ = held - count in
    let rest : List A = drop count (take held l) in
    let size : length rest ≡ w = length-drop count (take held l) ∙ ap (λ (k : ℕ). k - count) (length-take-le held l (omega arith)) in
    let front : copied ≡ rest ++ drop w l = e ∙ ap₂ (λ (s t : List A). s ++ t) (between_is l count held) (ap (λ (k : ℕ). drop k l) (zero-add w)) in
    let taken : take w copied ≡ rest = ap (take w) front ∙ take_at rest (drop w l) w size in
    let whole : length copied ≡ N = ap length front ∙ length-append rest (drop w l) ∙ ap₂ (λ (i j : ℕ). i + j) size (length-drop w l) ∙ omega arith in
    let none : drop (N - w) (drop w copied) ≡ [] = drop_of_length-le (drop w copied) {i = N - w} (rw (length-drop w copied) (omega arith)) in
    ap₂ (λ (s t : List A). s ++ t) taken (ap₂ (λ (s t : List A). s ++ t) r none ∙ append-nil (replicate (N - w) z)) ∙ ap (λ (k : ℕ). rest ++ replicate (N - k) z) (sym size)
