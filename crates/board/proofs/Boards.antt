-- A sound board, and what changing one place of it leaves. Assumes nothing.
use mathlib.Core.Path.{◌≡◌, refl, sym, ap, ap₂, ◌∙◌}
use mathlib.Core.Bool.{true}
use mathlib.Core.List.{List, [], ◌∷◌, ◌++◌}
use Prim.Native.Nat.{ℕ, ◌+◌, ◌-◌, ◌≤◌, ◌<◌}
use native.Mathlib.Omega.{arith}
use borrow.Author.Tests.{leb-true, eqb-true}
use lib.Dec.{eqb}
use lib.ListN.{length, take, drop, set}
use lib.Seq.{length-take-le}
use Rattle.lists.specs.Lists.{pad}
use Rattle.lists.proofs.Bools.{and_left_lem, and_right}
use Rattle.lists.proofs.TestLaws.{all_each}
use Rattle.lists.proofs.Places.{padded, splice_long, put_pad, cut_pad, set_pad}
use Rattle.board.specs.declared.Stand.{Stand}
use Rattle.board.specs.declared.Stand.TheVariants.{Absent, Offered, Halted}
use Rattle.board.specs.declared.Place.{Place}
use Rattle.board.specs.declared.Board.{Board}
use Rattle.board.specs.Board.{is_absent, is_blank, blank, sound, holding}
use Rattle.board.specs.Inside.{Sound}

pub sound_is : (b : Board) → sound b ≡ true → Sound b.places b.count
unfolding sound
sound_is b e =
    let t = all_each _ e in
    record { few = leb-true _ _ t.0; fit = t.1.0; up = t.1.1.0; rest = t.1.1.1.0 }

pub absent_one : (s : Stand) → is_absent s ≡ true → s ≡ Absent
absent_one Absent e = refl
absent_one (Offered share) e = cc
absent_one (Halted share) e = cc

blank_one : (p : Place) → is_blank p ≡ true → p ≡ blank
blank_one p e =
    ap₂ (λ (i : ℕ) (s : Stand). record { image = i; stand = s }) (eqb-true _ _ (and_left_lem (eqb p.image 0) (is_absent p.stand) e))
    (absent_one p.stand (and_right (eqb p.image 0) (is_absent p.stand) e))

-- a board, made of its count and its places
of : ℕ → List Place → Board
of n l = record { count = n; places = l }

module _ (places : List Place) (count : ℕ) (long : length places ≡ 16) (s : Sound places count) where
  abbrev l : List Place
  l = take count places

  -- its places are its images, and then blanks
  places_are : places ≡ pad 16 blank l
  places_are = padded is_blank blank blank_one 16 places count long s.few s.rest

  pub images_long : length l ≡ count
  images_long = let few = s.few in length-take-le count places (omega arith)

  pub holds_itself : record { count = count; places = places } ≡ holding l
  unfolding of
  holds_itself = ap₂ of (sym images_long) places_are

  module _ (at : ℕ) where
    pub taken_out_is : at < count → record { count = count - 1; places = take at places ++ drop (at + 1) places ++ (blank ∷ []) } ≡ holding (take at l ++ drop (at + 1) l)
    unfolding of
    taken_out_is h =
        let n : length l ≡ count = images_long in
        let few = s.few in
        ap₂ of (let long = splice_long l [] at (at + 1) (omega arith) in omega arith)
        (ap (λ (t : List Place). take at t ++ drop (at + 1) t ++ (blank ∷ [])) places_are ∙ cut_pad 16 blank l at (omega arith) (omega arith))

    pub put_in_is : (p : Place) → at ≤ count → count < 16 → record { count = count + 1; places = take 16 (take at places ++ (p ∷ drop at places)) } ≡ holding (take at l ++ (p ∷ drop at l))
    unfolding of
    put_in_is p h room =
        let n : length l ≡ count = images_long in
        ap₂ of (let long = splice_long l (p ∷ []) at at (omega arith) in omega arith)
        (ap (λ (t : List Place). take 16 (take at t ++ (p ∷ drop at t))) places_are ∙ put_pad 16 blank p l at (omega arith) (omega arith))

    pub replaced_is : (p : Place) → at < count → record { count = count; places = set places at p } ≡ holding (take at l ++ (p ∷ drop (at + 1) l))
    unfolding of
    replaced_is p h =
        let n : length l ≡ count = images_long in
        ap₂ of (let long = splice_long l (p ∷ []) at (at + 1) (omega arith) in omega arith)
        (ap (λ (t : List Place). set t at p) places_are ∙ set_pad 16 blank p l at (omega arith))
