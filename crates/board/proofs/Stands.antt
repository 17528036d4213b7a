-- How an image stands after an order, on a sound board: as it did, or as the table says; and a halt halts it, but on a full board that does not have
-- it. Assumes nothing.
use mathlib.Core.Path.{◌≡◌, refl, sym, ap, ◌∙◌, subst}
use mathlib.Core.Logic.{◌⊎◌, inl, inr}
use mathlib.Core.Bool.{Bool, true, false, not, cond}
use mathlib.Core.List.{List, [], ◌∷◌, ◌++◌}
use Prim.Native.Nat.{ℕ, suc, ◌≤◌, ◌<◌}
use native.Mathlib.Nat.{le_refl}
use native.Mathlib.Omega.{arith}
use borrow.Author.Tests.{leb-false, eqb-true, eq-eqb, not-true}
use lib.Dec.{leb, ltb, eqb}
use lib.ListN.{length}
use Rattle.lists.proofs.Places.{take_pad}
use Rattle.orders.specs.declared.Order.{Order}
use Rattle.orders.specs.declared.Order.TheVariants.{Halt}
use Rattle.orders.specs.Orders.{image_of}
use Rattle.board.specs.declared.Stand.{Stand}
use Rattle.board.specs.declared.Stand.TheVariants.{Absent, Offered, Halted}
use Rattle.board.specs.declared.Place.{Place}
use Rattle.board.specs.declared.Board.{Board}
use Rattle.board.specs.Board.{images, is_absent, blank, sound, outcome, stands, placed, settle, images_after, holding, board_tests, board_refusal, board_after}
use Rattle.board.proofs.Boards.{sound_is, absent_one}
use Rattle.board.proofs.Laws.{made, no_room, full_changes_nothing, full_absent, one_image, few_images, sound_after}

-- a board stays sound, whatever it is told
pub sound_stays : (b : Board) (o : Order) → sound b ≡ true → sound (board_after b o) ≡ true
sound_stays b o s = go (eqb (board_refusal b o) 0) refl (sound_after b o)
  where
    go : (t : Bool) → eqb (board_refusal b o) 0 ≡ t → (board_refusal b o ≡ 0 → sound (board_after b o) ≡ true) → sound (board_after b o) ≡ true
    go true e f = f (eqb-true _ _ e)
    go false e f = subst (λ (t : Bool). sound (cond t (holding (images_after o (images b))) b) ≡ true) (sym e) s

-- what an order that is not refused leaves
images_after_lem : (b : Board) (o : Order) → eqb (board_refusal b o) 0 ≡ true → images (board_after b o) ≡ images_after o (images b)
images_after_lem b o e = ap (λ (t : Bool). images (cond t (holding (images_after o (images b))) b)) e ∙ take_pad 16 blank (images_after o (images b))

-- an image stands as it did, or the order is about it and it stands as the table says of how it stood
pub stands_after : (b : Board) (o : Order) (j : ℕ) → sound b ≡ true
    → (stands j (images (board_after b o)) ≡ stands j (images b)) ⊎ ((image_of o ≡ j) × (stands j (images (board_after b o)) ≡ outcome o (stands j (images b))))
stands_after b o j s = refused (eqb (board_refusal b o) 0) refl
  where
    After : Type 0
    After = (stands j (images (board_after b o)) ≡ stands j (images b)) ⊎ ((image_of o ≡ j) × (stands j (images (board_after b o)) ≡ outcome o (stands j (images b))))

    named : (t : Bool) → eqb j (image_of o) ≡ t → stands j (images (board_after b o)) ≡ cond t (outcome o (stands (image_of o) (images b))) (stands j (images b)) → After
    named true e q = let same = sym (eqb-true j (image_of o) e) in inr (same, q ∙ ap (λ (i : ℕ). outcome o (stands i (images b))) same)
    named false e q = inl q

    room : (t : Bool) → no_room o (images b) ≡ t → images (board_after b o) ≡ images_after o (images b) → After
    room true e q = inl (ap (stands j) (q ∙ full_changes_nothing o (images b) e))
    room false e q = named (eqb j (image_of o)) refl (ap (stands j) q ∙ one_image o (images b) (sound_is b s).up e j)

    refused : (t : Bool) → eqb (board_refusal b o) 0 ≡ t → After
    refused true e = room (no_room o (images b)) refl (images_after_lem b o e)
    refused false e = inl (ap (λ (t : Bool). stands j (images (cond t (holding (images_after o (images b))) b))) e)

-- ---- a halt

-- settling an image makes at most one place more
placed_most : (image : ℕ) (stand : Stand) (l : List Place) → length (placed image stand ++ l) ≤ suc (length l)
placed_most image stand l = go (is_absent stand)
  where
    go : (t : Bool) → length (cond t [] (record { image = image; stand = stand } ∷ []) ++ l) ≤ suc (length l)
    go true = omega arith
    go false = le_refl (suc (length l))

settle_most : (image : ℕ) (stand : Stand) (l : List Place) → length (settle image stand l) ≤ suc (length l)
settle_most image stand [] = go (is_absent stand)
  where
    go : (t : Bool) → length {A = Place} (cond t [] (record { image = image; stand = stand } ∷ [])) ≤ 1
    go true = omega arith
    go false = omega arith
settle_most image stand (p ∷ l) = go (ltb p.image image) (eqb p.image image) (settle_most image stand l)
  where
    go : (t u : Bool) → length (settle image stand l) ≤ suc (length l)
        → length (cond t (p ∷ settle image stand l) (placed image stand ++ cond u l (p ∷ l))) ≤ suc (suc (length l))
    go true u ih = omega arith
    go false true ih = let h = placed_most image stand l in omega arith
    go false false ih = placed_most image stand (p ∷ l)

abbrev pub is_halted : Stand → Bool
is_halted Absent = false
is_halted (Offered share) = false
is_halted (Halted share) = true

outcome_halted : (i : ℕ) (s : Stand) → is_halted (outcome (Halt i) s) ≡ true
outcome_halted i Absent = refl
outcome_halted i (Offered old) = refl
outcome_halted i (Halted old) = refl

-- a halt is not refused, and its image is then halted or had no room
pub halt_after : (b : Board) (i : ℕ) → sound b ≡ true
    → (is_halted (stands i (images (board_after b (Halt i)))) ≡ true) ⊎ ((length (images b) ≡ 16) × (stands i (images b) ≡ Absent))
unfolding board_tests
halt_after b i s = room (no_room (Halt i) (images b)) refl
  where
    done : eqb (board_refusal b (Halt i)) 0 ≡ true
    done = ap (λ (t : Bool). eqb (cond (not t) 9 0) 0) s

    own : eqb i i ≡ true
    own = eq-eqb i i refl

    room : (t : Bool) → no_room (Halt i) (images b) ≡ t
        → (is_halted (stands i (images (board_after b (Halt i)))) ≡ true) ⊎ ((length (images b) ≡ 16) × (stands i (images b) ≡ Absent))
    room true e =
        let few = few_images b (sound_is b s).few in
        let absent = absent_one _ (full_absent (Halt i) (images b) (sound_is b s).up few e) in
        let long : 16 < length (made (Halt i) (images b)) = leb-false _ _ (not-true (leb (length (made (Halt i) (images b))) 16) e) in
        let most = settle_most i (outcome (Halt i) (stands i (images b))) (images b) in
        inr (omega arith, absent)
    room false e =
        inl (ap is_halted (ap (stands i) (images_after_lem b (Halt i) done) ∙ one_image (Halt i) (images b) (sound_is b s).up e i
        ∙ ap (λ (t : Bool). cond t (outcome (Halt i) (stands i (images b))) (stands i (images b))) own) ∙ outcome_halted i (stands i (images b)))
