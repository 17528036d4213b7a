-- Entries written one after the other into the lent list. Assumes nothing.
use mathlib.Core.Path.{◌≡◌, refl, sym, ap, ◌∙◌}
use mathlib.Core.List.{List, [], ◌∷◌, ◌++◌, append_assoc, append-nil}
use Prim.Native.Nat.{ℕ, ◌+◌, ◌*◌}
use native.Mathlib.Omega.{arith}
use lib.ListN.{length, take, drop, length-append}
use lib.Seq.{paste, take_at, drop_at, drop-drop}
use Rattle.lists.specs.Bytes.{be}
use Rattle.host.specs.declared.Held.{Held}
use Rattle.host.specs.Entries.{entry_of, entries_of}

pub entry_length : (e : Held) → length (entry_of e) ≡ 16
unfolding entry_of be
entry_length e = refl

entries_more : (l : List Held) (e : Held) → entries_of (l ++ (e ∷ [])) ≡ entries_of l ++ entry_of e
entries_more [] e = append-nil (entry_of e)
entries_more (x ∷ l) e = ap (λ (t : List ℕ). entry_of x ++ t) (entries_more l e) ∙ sym (append_assoc (entry_of x) (entries_of l) (entry_of e))

pub entries_length : (l : List Held) → length (entries_of l) ≡ 16 * length l
entries_length [] = refl
entries_length (x ∷ l) = length-append (entry_of x) (entries_of l) ∙ (rw (entry_length x) (omega (arith, entries_length l)))

-- one entry more, written behind those of l
pub entries_turn : (l : List Held) (e : Held) (out start : List ℕ) (n : ℕ) → n ≡ length l → out ≡ entries_of l ++ drop (16 * n) start
    → paste out (16 * n) (entry_of e) 16 ≡ entries_of (l ++ (e ∷ [])) ++ drop (16 * (n + 1)) start
unfolding entry_of be
entries_turn l e out start n en eo =
    let E : List ℕ = entries_of l in
    let lE : length E ≡ 16 * n = entries_length l ∙ ap (λ (k : ℕ). 16 * k) (sym en) in
    let a : take (16 * n) out ≡ E = ap (take (16 * n)) eo ∙ take_at E (drop (16 * n) start) (16 * n) lE in
    let b : drop (16 * n) out ≡ drop (16 * n) start = ap (drop (16 * n)) eo ∙ drop_at E (drop (16 * n) start) (16 * n) lE in
    let q : 16 * n + 16 ≡ 16 * (n + 1) = omega arith in
    let c : drop (16 * n + 16) out ≡ drop (16 * (n + 1)) start =
    sym (drop-drop 16 (16 * n) out) ∙ ap (drop 16) b ∙ drop-drop 16 (16 * n) start ∙ ap (λ (k : ℕ). drop k start) q in
    ap (λ (t : List ℕ). t ++ entry_of e ++ drop (16 * n + 16) out) a
    ∙ ap (λ (t : List ℕ). E ++ entry_of e ++ t) c
    ∙ ap (λ (t : List ℕ). t ++ drop (16 * (n + 1)) start) (sym (entries_more l e))
