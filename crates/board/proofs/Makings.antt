-- The five ways in which a board is changed: the image stays absent, there is no room for it, it is put in, taken out, or stands otherwise.
-- Each is what the order makes of the images, in whatever form the places are kept. Assumes nothing.
use mathlib.Core.Path.{◌≡◌, refl, sym, ap, ◌∙◌, subst}
use mathlib.Core.Bool.{Bool, true, false, cond}
use mathlib.Core.List.{List, [], ◌∷◌, ◌++◌, map}
use Prim.Native.Nat.{ℕ, ◌+◌, ◌-◌, ◌≤◌, ◌<◌}
use native.Mathlib.Omega.{arith}
use borrow.Author.Tests.{le-leb, lt-leb}
use lib.Dec.{leb}
use lib.ListN.{length, take, drop, get_or, set, take-append-drop, length-map}
use Rattle.std.specs.List.{take-map}
use Rattle.std.proofs.lemmas.List.{get_or-map, get_or-take, map-set}
use Rattle.lists.specs.Lists.{rising}
use Rattle.lists.proofs.Maps.{cut_of, put_of}
use Rattle.lists.proofs.Places.{splice_long}
use Rattle.orders.specs.declared.Order.{Order}
use Rattle.orders.specs.Orders.{image_of, share_fits}
use Rattle.board.specs.declared.Stand.{Stand}
use Rattle.board.specs.declared.Stand.TheVariants.{Absent}
use Rattle.board.specs.declared.Place.{Place}
use Rattle.board.specs.declared.Board.{Board}
use Rattle.board.specs.Board.{Placeable, before, stand_fits, is_absent, blank, board_in, images, outcome, stands, settle, unless_full, holding, images_after, sound}
use Rattle.board.specs.Inside.{Sound, StandsAt, WouldStandAt}
use Rattle.board.proofs.Boards.{sound_is, images_long, holds_itself, taken_out_is, put_in_is, replaced_is}
use Rattle.board.proofs.Laws.{stands_fit, outcome_fit}

unless_same : (t : Bool) (l : List Place) → cond t l l ≡ l
unless_same true l = refl
unless_same false l = refl

-- ---- what settling an image makes of the images of a board

module _ {places : List Place} {count : ℕ} (s : Sound places count) (long : length places ≡ 16) (image : ℕ) (stand : Stand) where
  abbrev l : List Place
  l = take count places

  abbrev new : List Place
  new = settle image stand l

  abbrev p : Place
  p = record { image = image; stand = stand }

  -- what is made is made, where it has room
  roomy : (made : List Place) → new ≡ made → length made ≤ 16 → holding made ≡ holding (unless_full new l)
  roomy made e h =
      let all_fit : leb (length new) 16 ≡ true = ap (λ (t : List Place). leb (length t) 16) e ∙ le-leb _ _ h in
      ap holding (sym (ap (λ (t : Bool). cond t new l) all_fit ∙ e))

  module _ {at : ℕ} (there : WouldStandAt l image at) where
    kept : is_absent stand ≡ true → record { count = count; places = places } ≡ holding (unless_full new l)
    kept gone =
        let same : new ≡ l =
        there.settled stand ∙ ap (λ (t : Bool). take at l ++ (cond t [] (p ∷ []) ++ drop at l)) gone ∙ take-append-drop at l in
        holds_itself places count long s ∙ ap holding (sym (ap (λ (t : List Place). unless_full t l) same ∙ unless_same (leb (length l) 16) l))

    longer : is_absent stand ≡ false → new ≡ take at l ++ (p ∷ drop at l)
    longer some = there.settled stand ∙ ap (λ (t : Bool). take at l ++ (cond t [] (p ∷ []) ++ drop at l)) some

    full : is_absent stand ≡ false → 16 ≤ count → record { count = count; places = places } ≡ holding (unless_full new l)
    full some h =
        let within = there.within in
        let ll : length l ≡ count = images_long places count long s in
        let long-new : length new ≡ count + 1 = ap length (longer some) ∙ (let long = splice_long l (p ∷ []) at at within in omega arith) in
        let too_long : 16 < length new = omega arith in
        holds_itself places count long s ∙ ap holding (sym (ap (λ (t : Bool). cond t new l) (lt-leb _ _ too_long)))

    put_in : is_absent stand ≡ false → count < 16 → holding (take at l ++ (p ∷ drop at l)) ≡ holding (unless_full new l)
    put_in some h =
        let within = there.within in
        let ll : length l ≡ count = images_long places count long s in
        roomy _ (longer some) (let long = splice_long l (p ∷ []) at at within in omega arith)

  module _ {at : ℕ} (here : StandsAt l image at) where
    taken_out : is_absent stand ≡ true → holding (take at l ++ drop (at + 1) l) ≡ holding (unless_full new l)
    taken_out gone =
        let few = s.few in
        let within = here.within in
        let ll : length l ≡ count = images_long places count long s in
        roomy (take at l ++ drop (at + 1) l)
        (here.settled stand ∙ ap (λ (t : Bool). take at l ++ (cond t [] (p ∷ []) ++ drop (at + 1) l)) gone)
        (let long = splice_long l [] at (at + 1) (omega arith) in omega arith)

    replaced : is_absent stand ≡ false → holding (take at l ++ (p ∷ drop (at + 1) l)) ≡ holding (unless_full new l)
    replaced some =
        let few = s.few in
        let within = here.within in
        let ll : length l ≡ count = images_long places count long s in
        roomy (take at l ++ (p ∷ drop (at + 1) l))
        (here.settled stand ∙ ap (λ (t : Bool). take at l ++ (cond t [] (p ∷ []) ++ drop (at + 1) l)) some)
        (let long = splice_long l (p ∷ []) at (at + 1) (omega arith) in omega arith)

-- ---- what an order makes of a board

module _ {P : Type 0} (place : P → Place) (old : List P) (count : ℕ) (o : Order) (long : length old ≡ 16) (e : sound (board_in place old count) ≡ true) where
  abbrev b : Board
  b = board_in place old count

  sixteen : length b.places ≡ 16
  sixteen = length-map old place ∙ long

  pub is_sound : Sound b.places count
  is_sound = sound_is b e

  -- the images, as they are searched
  used : images b ≡ map place (take count old)
  used = take-map place count old

  pub searched_rise : {searched : List P} → searched ≡ take count old → rising before (map place searched) ≡ true
  searched_rise u = ap (λ (t : List P). rising before (map place t)) u ∙ ap (rising before) (sym used) ∙ is_sound.up

  after_is : {image : ℕ} {stand : Stand} → image ≡ image_of o → stand ≡ outcome o (stands image (images b))
      → unless_full (settle image stand (images b)) (images b) ≡ images_after o (images b)
  unfolding images_after
  after_is {image} {stand} i e =
      ap (λ (new : Stand). unless_full (settle image new (images b)) (images b)) e
      ∙ ap (λ (j : ℕ). unless_full (settle j (outcome o (stands j (images b))) (images b)) (images b)) i

  -- the image stands at its place, among those that were searched
  module _ {searched : List P} {image at : ℕ} {was stand : Stand} (x : P) (u : searched ≡ take count old) (i : image ≡ image_of o) (w : was ≡ (place (get_or old at x)).stand)
      (to : stand ≡ outcome o was) (found : StandsAt (map place searched) image at) where
    here : StandsAt (images b) image at
    here = subst (λ (t : List Place). StandsAt t image at) (ap (map place) u ∙ sym used) found

    in_use : at < count
    in_use =
        let within = here.within in
        let ll : length (images b) ≡ count = images_long b.places count sixteen is_sound in
        omega arith

    stood : was ≡ stands image (images b)
    stood =
        let few = is_sound.few in
        let inside = in_use in
        w ∙ sym (here.stood ∙ ap (λ (p : Place). p.stand) (get_or-take count b.places at blank inside ∙ get_or-map place old at x blank (omega arith)))

    becomes : stand ≡ outcome o (stands image (images b))
    becomes = to ∙ ap (outcome o) stood

    -- and may stand as the order says
    pub may_stand : share_fits o ≡ true → Placeable stand
    may_stand fits some =
        subst (λ (new : Stand). stand_fits new ≡ true) (sym becomes)
        (outcome_fit o (stands image (images b)) fits (stands_fit image (images b) is_sound.fit) (ap is_absent (sym becomes) ∙ some))

    pub closes : (y : P) (out : List P) → is_absent stand ≡ true → place y ≡ blank → (at < length old → out ≡ take at old ++ drop (at + 1) old ++ (y ∷ []))
        → board_in place out (count - 1) ≡ holding (images_after o (images b))
    closes y out gone e moved =
        let few = is_sound.few in
        let inside = in_use in
        ap (λ (t : List P). board_in place t (count - 1)) (moved (omega arith))
        ∙ ap (λ (t : List Place). record { count = count - 1; places = t }) (cut_of place at (at + 1) y old)
        ∙ ap (λ (p : Place). record { count = count - 1; places = take at b.places ++ drop (at + 1) b.places ++ (p ∷ []) }) e
        ∙ taken_out_is b.places count sixteen is_sound at in_use
        ∙ taken_out is_sound sixteen image stand here gone
        ∙ ap holding (after_is i becomes)

    pub sets : (y : P) → is_absent stand ≡ false → place y ≡ record { image = image; stand = stand } → board_in place (set old at y) count ≡ holding (images_after o (images b))
    sets y some e =
        ap (λ (t : List Place). record { count = count; places = t }) (map-set place old at y ∙ ap (set b.places at) e)
        ∙ replaced_is b.places count sixteen is_sound at (record { image = image; stand = stand }) in_use
        ∙ replaced is_sound sixteen image stand here some
        ∙ ap holding (after_is i becomes)

  -- or would stand there
  module _ {searched : List P} {image at : ℕ} {stand : Stand} (u : searched ≡ take count old) (i : image ≡ image_of o) (to : stand ≡ outcome o Absent)
      (found : WouldStandAt (map place searched) image at) where
    there : WouldStandAt (images b) image at
    there = subst (λ (t : List Place). WouldStandAt t image at) (ap (map place) u ∙ sym used) found

    comes : stand ≡ outcome o (stands image (images b))
    comes = to ∙ ap (outcome o) (sym there.stood)

    pub may_come : share_fits o ≡ true → Placeable stand
    may_come fits some =
        subst (λ (new : Stand). stand_fits new ≡ true) (sym comes)
        (outcome_fit o (stands image (images b)) fits (stands_fit image (images b) is_sound.fit) (ap is_absent (sym comes) ∙ some))

    pub within_use : at ≤ count
    within_use =
        let within = there.within in
        let ll : length (images b) ≡ count = images_long b.places count sixteen is_sound in
        omega arith

    pub opens : (y : P) (out : List P) → is_absent stand ≡ false → count < 16 → place y ≡ record { image = image; stand = stand }
        → out ≡ take (length old) (take at old ++ (y ∷ drop at old)) → board_in place out (count + 1) ≡ holding (images_after o (images b))
    opens y out some room e moved =
        ap (λ (t : List P). board_in place t (count + 1)) (moved ∙ ap (λ (n : ℕ). take n (take at old ++ (y ∷ drop at old))) long)
        ∙ ap (λ (t : List Place). record { count = count + 1; places = t }) (put_of place 16 at y old)
        ∙ ap (λ (p : Place). record { count = count + 1; places = take 16 (take at b.places ++ (p ∷ drop at b.places)) }) e
        ∙ put_in_is b.places count sixteen is_sound at (record { image = image; stand = stand }) within_use room
        ∙ put_in is_sound sixteen image stand there some room
        ∙ ap holding (after_is i comes)

    pub stays_absent : is_absent stand ≡ true → board_in place old count ≡ holding (images_after o (images b))
    stays_absent gone = kept is_sound sixteen image stand there gone ∙ ap holding (after_is i comes)

    pub stays_out : is_absent stand ≡ false → 16 ≤ count → board_in place old count ≡ holding (images_after o (images b))
    stays_out some h = full is_sound sixteen image stand there some h ∙ ap holding (after_is i comes)
