-- The board (01, "The board"). Assumes nothing.
use Rattle.std.specs.Prelude.{◌≡◌, Bool, true, false, not, cond, ◌&&◌, List, [], ◌∷◌, ◌++◌, ℕ, leb, ltb, eqb, length, take, drop, map, codes, decimal, Result, Ok, Err}
use Rattle.lists.specs.Tests.{all_of, first_of}
use Rattle.lists.specs.Lists.{all, rising, pad}
use Rattle.orders.specs.declared.Order.{Order}
use Rattle.orders.specs.declared.Order.TheVariants.{Publish, Halt, Resume, Withdraw}
use Rattle.orders.specs.Orders.{image_of, share_fits, is_share}
use Rattle.board.specs.declared.Stand.{Stand}
use Rattle.board.specs.declared.Stand.TheVariants.{Absent, Offered, Halted}
use Rattle.board.specs.declared.Place.{Place}
use Rattle.board.specs.declared.Board.{Board}
use Rattle.board.specs.declared.Refusal.{Refusal}
use Rattle.board.specs.declared.Refusal.TheVariants.{Unsound, OutOfRange}

-- ---- soundness: "Up to 16 images, strictly rising, each offered(share 1..100) or halted(share 0..100), unused places zero, else 9"

-- the images that a board has, in their places
abbrev pub images : Board → List Place
images b = take b.count b.places

-- a place in use
abbrev pub stand_fits : Stand → Bool
stand_fits Absent = false
stand_fits (Offered share) = is_share share
stand_fits (Halted share) = leb share 100

abbrev pub place_fits : Place → Bool
place_fits p = stand_fits p.stand

-- an unused place
abbrev pub blank : Place
blank = record { image = 0; stand = Absent }

abbrev pub is_absent : Stand → Bool
is_absent Absent = true
is_absent (Offered share) = false
is_absent (Halted share) = false

abbrev pub is_blank : Place → Bool
is_blank p = eqb p.image 0 && is_absent p.stand

abbrev pub before : Place → Place → Bool
before p q = ltb p.image q.image

unfoldable pub sound : Board → Bool
sound b =
    all_of (leb b.count 16 ∷ all place_fits (images b) ∷ rising before (images b) ∷ all is_blank (drop b.count b.places) ∷ [])

-- the board of these places, each standing for one
abbrev pub board_in : {P : Type 0} → (P → Place) → List P → ℕ → Board
board_in place places count = record { count = count; places = map place places }

-- how a stand is written: a word, and the share where it has one
abbrev pub words : Stand → List ℕ
words Absent = codes "absent"
words (Offered share) = codes "offered " ++ decimal share
words (Halted share) = codes "halted " ++ decimal share

-- a stand that a place of a sound board can have
abbrev pub Placeable : Stand → Type 0
Placeable stand = is_absent stand ≡ false → stand_fits stand ≡ true

-- ---- "What each order does in each state is one fixed table"

abbrev pub outcome : Order → Stand → Stand
outcome (Publish image share) Absent = Offered share
outcome (Publish image share) (Offered old) = Offered share
outcome (Publish image share) (Halted old) = Halted old
outcome (Halt image) Absent = Halted 0
outcome (Halt image) (Offered old) = Halted old
outcome (Halt image) (Halted old) = Halted old
outcome (Resume image) Absent = Absent
outcome (Resume image) (Offered old) = Offered old
outcome (Resume image) (Halted old) = cond (eqb old 0) Absent (Offered old)
outcome (Withdraw image) Absent = Absent
outcome (Withdraw image) (Offered old) = Absent
outcome (Withdraw image) (Halted old) = Absent

-- ---- the board after an order

-- what the board says of an image; "the rest are absent"
abbrev pub stands : ℕ → List Place → Stand
stands image [] = Absent
stands image (p ∷ l) = cond (eqb p.image image) p.stand (stands image l)

-- the place of an image that stands so: none where it is absent
abbrev pub placed : ℕ → Stand → List Place
placed image stand = cond (is_absent stand) [] (record { image = image; stand = stand } ∷ [])

-- the images with that one standing so, in rising order
abbrev pub settle : ℕ → Stand → List Place → List Place
settle image stand [] = placed image stand
settle image stand (p ∷ l) =
    cond (ltb p.image image) (p ∷ settle image stand l) (placed image stand ++ cond (eqb p.image image) l (p ∷ l))

-- "A publish or halt of an absent image on a board of 16 changes nothing"
abbrev pub unless_full : List Place → List Place → List Place
unless_full new old = cond (leb (length new) 16) new old

unfoldable pub images_after : Order → List Place → List Place
images_after o l = unless_full (settle (image_of o) (outcome o (stands (image_of o) l)) l) l

-- the board that has these images: the first places, and the others zero
abbrev pub holding : List Place → Board
holding l = record { count = length l; places = pad 16 blank l }

-- "board 9, 23"
unfoldable pub board_tests : Board → Order → List (ℕ × Bool)
board_tests b o = (9, not (sound b)) ∷ (23, not (share_fits o)) ∷ []

abbrev pub board_refusal : Board → Order → ℕ
board_refusal b o = first_of (board_tests b o)

abbrev pub board_after : Board → Order → Board
board_after b o = cond (eqb (board_refusal b o) 0) (holding (images_after o (images b))) b

-- the paper's number for each refusal
abbrev pub number : Refusal → ℕ
number Unsound = 9
number OutOfRange = 23

-- and for each answer; 0 for none
abbrev pub says : Result (Unit {0}) Refusal → ℕ
says (Ok done) = 0
says (Err refusal) = number refusal
