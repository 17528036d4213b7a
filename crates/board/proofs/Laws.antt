-- What callers use of a board: soundness is kept, and what an order does to each image. Assumes nothing.
use mathlib.Core.Path.{◌≡◌, refl, sym, ap, ◌∙◌, subst}
use mathlib.Core.Bool.{Bool, true, false, not, cond, true≢false}
use mathlib.Core.List.{List, [], ◌∷◌}
use Prim.Native.Nat.{ℕ, zero, suc, ◌-◌, ◌≤◌, ◌<◌}
use native.Mathlib.Nat.{le_trans, min-le_left}
use native.Mathlib.Omega.{arith}
use borrow.Author.Tests.{leb-true, leb-false, le-leb, eqb-false, not-true, not-false}
use lib.Dec.{leb, eqb}
use lib.ListN.{length, take, drop, replicate, length-take}
use lib.Seq.{take-append_seam, drop-append_seam}
use Rattle.lists.specs.Lists.{all, rising}
use Rattle.lists.proofs.Bools.{and_left_lem, and_right}
use Rattle.lists.proofs.TestLaws.{each_all, none_pass}
use Rattle.orders.specs.declared.Order.{Order}
use Rattle.orders.specs.declared.Order.TheVariants.{Publish, Halt, Resume, Withdraw}
use Rattle.orders.specs.Orders.{image_of, share_fits}
use Rattle.board.specs.declared.Stand.{Stand}
use Rattle.board.specs.declared.Stand.TheVariants.{Absent, Offered, Halted}
use Rattle.board.specs.declared.Place.{Place}
use Rattle.board.specs.declared.Board.{Board}
use Rattle.board.specs.Board.{images, stand_fits, place_fits, is_absent, is_blank, blank, before, sound, outcome, stands, settle, images_after, holding, board_tests, board_refusal, board_after}
use Rattle.board.proofs.Boards.{sound_is}
use Rattle.board.proofs.Settling.{settle_stands, settle_rises, settle_fit, settle_short}

-- ---- what an order does to each image

-- the images with the order's own settled, room or not
abbrev pub made : Order → List Place → List Place
made o l = settle (image_of o) (outcome o (stands (image_of o) l)) l

-- there is no room: it would be a seventeenth
abbrev pub no_room : Order → List Place → Bool
no_room o l = not (leb (length (made o l)) 16)

-- then nothing changes; and it is so only for an image that was absent
pub full_changes_nothing : (o : Order) (l : List Place) → no_room o l ≡ true → images_after o l ≡ l
unfolding images_after
full_changes_nothing o l e = ap (λ (t : Bool). cond t (made o l) l) (not-true (leb (length (made o l)) 16) e)

pub full_absent : (o : Order) (l : List Place) → rising before l ≡ true → length l ≤ 16 → no_room o l ≡ true → is_absent (stands (image_of o) l) ≡ true
full_absent o l up h e = go (is_absent (stands (image_of o) l)) refl
  where
    go : (t : Bool) → is_absent (stands (image_of o) l) ≡ t → is_absent (stands (image_of o) l) ≡ true
    go true q = q
    go false q =
        let long : 16 < length (made o l) = leb-false _ _ (not-true (leb (length (made o l)) 16) e) in
        let short = settle_short (image_of o) (outcome o (stands (image_of o) l)) l up q in
        absurd (omega arith)

-- else its image stands as the table says of how it stood, and every other image as it did
pub one_image : (o : Order) (l : List Place) → rising before l ≡ true → no_room o l ≡ false
    → (j : ℕ) → stands j (images_after o l) ≡ cond (eqb j (image_of o)) (outcome o (stands (image_of o) l)) (stands j l)
unfolding images_after
one_image o l up e j =
    ap (λ (t : Bool). stands j (cond t (made o l) l)) (not-false (leb (length (made o l)) 16) e)
    ∙ settle_stands (image_of o) (outcome o (stands (image_of o) l)) j l up

-- ---- soundness is kept

all_blank : (n : ℕ) → all is_blank (replicate n blank) ≡ true
all_blank zero = refl
all_blank (suc n) = all_blank n

pub holding_sound : (l : List Place) → length l ≤ 16 → all place_fits l ≡ true → rising before l ≡ true → sound (holding l) ≡ true
unfolding sound
holding_sound l h fit up =
    let own : take (length l) (holding l).places ≡ l = take-append_seam l (replicate (16 - length l) blank) in
    let rest : drop (length l) (holding l).places ≡ replicate (16 - length l) blank = drop-append_seam l (replicate (16 - length l) blank) in
    each_all _ (
      le-leb _ _ h,
      (
        ap (all place_fits) own ∙ fit,
        (ap (rising before) own ∙ up, (ap (all is_blank) rest ∙ all_blank (16 - length l), tt)),
      ),
    )

pub stands_fit : (image : ℕ) (l : List Place) → all place_fits l ≡ true → is_absent (stands image l) ≡ false → stand_fits (stands image l) ≡ true
stands_fit image [] fit some = absurd (true≢false some)
stands_fit image (p ∷ l) fit some =
    go (eqb p.image image) some (and_left_lem (place_fits p) (all place_fits l) fit) (stands_fit image l (and_right (place_fits p) (all place_fits l) fit))
  where
    go : (t : Bool) → is_absent (cond t p.stand (stands image l)) ≡ false → place_fits p ≡ true
        → (is_absent (stands image l) ≡ false → stand_fits (stands image l) ≡ true) → stand_fits (cond t p.stand (stands image l)) ≡ true
    go true some here rest = here
    go false some here rest = rest some

-- a share that was kept while the image was halted
resumed_fit : (old : ℕ) → leb old 100 ≡ true → is_absent (cond (eqb old 0) Absent (Offered old)) ≡ false → stand_fits (cond (eqb old 0) Absent (Offered old)) ≡ true
resumed_fit old e some = go (eqb old 0) refl some
  where
    go : (t : Bool) → eqb old 0 ≡ t → is_absent (cond t Absent (Offered old)) ≡ false → stand_fits (cond t Absent (Offered old)) ≡ true
    go true q some = absurd (true≢false some)
    go false q some =
        let pos : 1 ≤ old = let ne = eqb-false old 0 q in omega arith in
        rw (le-leb _ _ pos, e)

pub outcome_fit : (o : Order) (s : Stand) → share_fits o ≡ true → (is_absent s ≡ false → stand_fits s ≡ true) → is_absent (outcome o s) ≡ false → stand_fits (outcome o s) ≡ true
outcome_fit (Publish image share) Absent fits was some = fits
outcome_fit (Publish image share) (Offered old) fits was some = fits
outcome_fit (Publish image share) (Halted old) fits was some = was refl
outcome_fit (Halt image) Absent fits was some = refl
outcome_fit (Halt image) (Offered old) fits was some = and_right (leb 1 old) (leb old 100) (was refl)
outcome_fit (Halt image) (Halted old) fits was some = was refl
outcome_fit (Resume image) Absent fits was some = absurd (true≢false some)
outcome_fit (Resume image) (Offered old) fits was some = was refl
outcome_fit (Resume image) (Halted old) fits was some = resumed_fit old (was refl) some
outcome_fit (Withdraw image) Absent fits was some = absurd (true≢false some)
outcome_fit (Withdraw image) (Offered old) fits was some = absurd (true≢false some)
outcome_fit (Withdraw image) (Halted old) fits was some = absurd (true≢false some)

pub few_images : (b : Board) → b.count ≤ 16 → length (images b) ≤ 16
few_images b h = le_trans (subst (λ (k : ℕ). k ≤ b.count) (sym (length-take b.count b.places)) (min-le_left b.count (length b.places))) h

pub sound_after : (b : Board) (o : Order) → board_refusal b o ≡ 0 → sound (board_after b o) ≡ true
unfolding board_tests images_after
sound_after b o none =
    let t = none_pass (board_tests b o) refl none in
    let s = sound_is b (not-false _ t.0) in
    let i = image_of o in
    let l = images b in
    let new = outcome o (stands i l) in
    let fit = settle_fit i new (outcome_fit o (stands i l) (not-false _ t.1.0) (stands_fit i l s.fit)) l s.fit in
    subst (λ (r : ℕ). sound (cond (eqb r 0) (holding (images_after o l)) b) ≡ true) (sym none)
    (go (leb (length (made o l)) 16) refl fit (settle_rises i new l s.up) (few_images b s.few) s.fit s.up)
  where
    go : (t : Bool) → leb (length (made o (images b))) 16 ≡ t
        → all place_fits (made o (images b)) ≡ true → rising before (made o (images b)) ≡ true → length (images b) ≤ 16
        → all place_fits (images b) ≡ true → rising before (images b) ≡ true
        → sound (holding (cond t (made o (images b)) (images b))) ≡ true
    go true e fit up short old-fit old-up = holding_sound (made o (images b)) (leb-true _ _ e) fit up
    go false e fit up short old-fit old-up = holding_sound (images b) short old-fit old-up
