-- Bytes put at a place: a run of them put one after the other is put at once. Assumes nothing.
use mathlib.Core.Path.{◌≡◌, refl, sym, ap, ◌∙◌}
use mathlib.Core.Bool.{Bool, true, false, not, cond}
use mathlib.Core.List.{List, [], ◌∷◌, ◌++◌, append-nil}
use Prim.Native.Nat.{ℕ, suc, ◌+◌, ◌-◌, ◌/◌, ◌%◌, ◌≤◌, ◌<◌}
use native.Mathlib.Nat.{add-zero, zero-add, add-suc, suc-add}
use native.Mathlib.Omega.{arith}
use borrow.Author.Tests.{le-leb, lt-leb, leb-true, leb-false, not-true, not-false}
use lib.Dec.{leb}
use lib.ListN.{length, set, take, drop, length-append, take-append-drop}
use lib.Seq.{sets, sets-eq, length-sets, set_comm}
use Rattle.lists.specs.Bytes.{be}
use Rattle.lists.proofs.ByteLaws.{length_be, be_more}
use Rattle.fields.specs.Fields.{field, placed}

sets_append : (l : List ℕ) (i : ℕ) (vs ws : List ℕ) → sets l i (vs ++ ws) ≡ sets (sets l i vs) (i + length vs) ws
sets_append l i [] ws = ap (λ (k : ℕ). sets l k ws) (sym (add-zero i))
sets_append l i (a ∷ vs) ws =
    sets_append (set l i a) (suc i) vs ws
    ∙ ap (λ (k : ℕ). sets (sets (set l i a) (suc i) vs) k ws) (suc-add i (length vs) ∙ sym (add-suc i (length vs)))

-- one byte more
sets_more : (l : List ℕ) (at k x : ℕ) → 0 < k → set (sets l at (be (k - 1) (x / 256))) (at + (k - 1)) (x % 256) ≡ sets l at (be k x)
sets_more l at k x h =
    ap (λ (n : ℕ). set (sets l at (be (k - 1) (x / 256))) (at + n) (x % 256)) (sym (length_be (k - 1) (x / 256)))
    ∙ sym (sets_append l at (be (k - 1) (x / 256)) ((x % 256) ∷ []))
    ∙ ap (sets l at) (sym (be_more k x h))

-- a store behind a run of bytes may come before the run
sets_set : (l : List ℕ) (at j v : ℕ) (vs : List ℕ) → at + length vs ≤ j → sets (set l j v) at vs ≡ set (sets l at vs) j v
sets_set l at j v [] h = refl
sets_set l at j v (a ∷ vs) h =
    ap (λ (t : List ℕ). sets t (suc at) vs) (set_comm l j at v a (λ e. omega arith))
    ∙ sets_set (set l at a) (suc at) j v vs (omega arith)

-- the last byte first
pub sets_last : (l : List ℕ) (at k x : ℕ) → 0 < k → sets (set l (at + (k - 1)) (x % 256)) at (be (k - 1) (x / 256)) ≡ sets l at (be k x)
sets_last l at k x h =
    let e : length (be (k - 1) (x / 256)) ≡ k - 1 = length_be (k - 1) (x / 256) in
    sets_set l at (at + (k - 1)) (x % 256) (be (k - 1) (x / 256)) (omega arith) ∙ sets_more l at k x h

module _ (l : List ℕ) (at : ℕ) (bs : List ℕ) where
  pub placed_sets : at + length bs ≤ length l → sets l at bs ≡ placed l at bs
  unfolding placed
  placed_sets h = rw (le-leb (at + length bs) (length l) h) (sets-eq bs l at h)

  pub placed_full : length l < at + length bs → l ≡ placed l at bs
  unfolding placed
  placed_full h = rw (lt-leb (at + length bs) (length l) h)

  pub placed_length : at + length bs ≤ length l → length (placed l at bs) ≡ length l
  placed_length h = ap length (sym (placed_sets h)) ∙ length-sets l at bs

-- from the first place on
pub placed_front : (l bs : List ℕ) → length bs ≤ length l → placed l 0 bs ≡ bs ++ drop (length bs) l
unfolding placed
placed_front l bs h = rw (zero-add (length bs), le-leb (length bs) (length l) h)

pub placed_none : (l : List ℕ) (at : ℕ) → l ≡ placed l at []
unfolding placed
placed_none l at = go (leb (at + 0) (length l))
  where
    go : (t : Bool) → l ≡ cond t (take at l ++ [] ++ drop (at + 0) l) l
    go true = sym (rw (append-nil (take at l), add-zero at) (take-append-drop at l))
    go false = refl

-- ---- a run of bytes after another is one run

pub sets_then : (l l' l'' : List ℕ) (at a : ℕ) (xs ys : List ℕ) → l' ≡ sets l at xs → l'' ≡ sets l' a ys → a ≡ at + length xs → l'' ≡ sets l at (xs ++ ys)
sets_then l l' l'' at a xs ys p q e =
    q
    ∙ ap (λ (t : List ℕ). sets t a ys) p
    ∙ ap (λ (k : ℕ). sets (sets l at xs) k ys) e
    ∙ sym (sets_append l at xs ys)

pub placed_then : (l l' l'' : List ℕ) (at a : ℕ) (xs ys : List ℕ) → l' ≡ placed l at xs → l'' ≡ placed l' a ys → a ≡ at + length xs
    → at + (length xs + length ys) ≤ length l → l'' ≡ placed l at (xs ++ ys)
placed_then l l' l'' at a xs ys p q e h =
    let m : length l' ≡ length l = ap length p ∙ placed_length l at xs (omega arith) in
    let n : length (xs ++ ys) ≡ length xs + length ys = length-append xs ys in
    sets_then l l' l'' at a xs ys (p ∙ sym (placed_sets l at xs (omega arith))) (q ∙ sym (placed_sets l' a ys (omega arith))) e
    ∙ placed_sets l at (xs ++ ys) (omega arith)

-- ---- what a writer answers and leaves, by what it found of the room

module _ (l : List ℕ) (at n : ℕ) (bs : List ℕ) (long : length bs ≡ n) (b : Bool) (e : b ≡ leb (at + n) (length l)) where
  pub not_put : not b ≡ true → (false ≡ leb (at + n) (length l)) × (l ≡ placed l at bs)
  not_put t =
      let f : leb (at + n) (length l) ≡ false = sym e ∙ not-true b t in
      let h : length l < at + n = leb-false (at + n) (length l) f in
      (sym f, placed_full l at bs (omega arith))

  pub room : not b ≡ false → at + n ≤ length l
  room t = leb-true (at + n) (length l) (sym e ∙ not-false b t)

  pub was_put : (l' : List ℕ) → not b ≡ false → l' ≡ sets l at bs → (true ≡ leb (at + n) (length l)) × (l' ≡ placed l at bs)
  was_put l' t w =
      let h : at + n ≤ length l = room t in
      (sym (le-leb (at + n) (length l) h), w ∙ placed_sets l at bs (omega arith))

-- ---- a field

pub length_field : (tag : ℕ) (value : List ℕ) → length (field tag value) ≡ 3 + length value
unfolding field be
length_field tag value = omega arith

pub field_number : (tag k x : ℕ) → be 1 tag ++ (be 2 k ++ be k x) ≡ field tag (be k x)
unfolding field
field_number tag k x = ap (λ (n : ℕ). be 1 tag ++ (be 2 n ++ be k x)) (sym (length_be k x))
