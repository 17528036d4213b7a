-- A place of a sound board comes back from its memory, and in one form: what the memory's own laws cite. Assumes nothing.
use mathlib.Core.Path.{◌≡◌, refl, sym, ap, ap₂, ◌∙◌, subst}
use mathlib.Core.Bool.{Bool, true, false, cond, ◌&&◌, ◌||◌, true≢false}
use mathlib.Core.Logic.{◌⊎◌, inl, inr}
use Prim.Native.Nat.{ℕ}
use borrow.Author.Tests.{eqb-true}
use lib.Dec.{leb, eqb}
use Rattle.lists.proofs.Bools.{and_left_lem, and_right, or_cases}
use Rattle.board.specs.declared.Stand.{Stand}
use Rattle.board.specs.declared.Stand.TheVariants.{Absent, Offered, Halted}
use Rattle.board.specs.declared.Place.{Place}
use Rattle.board.specs.Board.{Placeable, stand_fits, place_fits, is_absent, is_blank}
use Rattle.service.specs.declared.PlaceMemory.{PlaceMemory}
use Rattle.service.specs.Memory.{stand_from, place_from, stand_number, stand_share, place_memory}

module _ (stand share : ℕ) where
  -- by which of the three tests the numbers pass
  abbrev pub by : Bool → Bool → Bool → Stand
  by a o h = cond a Absent (cond o (Offered share) (cond h (Halted share) (Offered 0)))

  -- what fits or is absent has these numbers
  stand_there : (stand_fits (stand_from stand share) ≡ true) ⊎ (is_absent (stand_from stand share) ≡ true)
      → (stand_number (stand_from stand share) ≡ stand) × (stand_share (stand_from stand share) ≡ share)
  stand_there = go (eqb stand 0 && eqb share 0) (eqb stand 1 && leb share 100) (eqb stand 2 && leb share 100) refl refl refl
    where
      go : (a o h : Bool) → (eqb stand 0 && eqb share 0) ≡ a → (eqb stand 1 && leb share 100) ≡ o → (eqb stand 2 && leb share 100) ≡ h
          → (stand_fits (by a o h) ≡ true) ⊎ (is_absent (by a o h) ≡ true) → (stand_number (by a o h) ≡ stand) × (stand_share (by a o h) ≡ share)
      go true o h ea eo eh t = (sym (eqb-true stand 0 (and_left_lem (eqb stand 0) (eqb share 0) ea)), sym (eqb-true share 0 (and_right (eqb stand 0) (eqb share 0) ea)))
      go false true h ea eo eh t = (sym (eqb-true stand 1 (and_left_lem (eqb stand 1) (leb share 100) eo)), refl)
      go false false true ea eo eh t = (sym (eqb-true stand 2 (and_left_lem (eqb stand 2) (leb share 100) eh)), refl)
      go false false false ea eo eh (inl t) = absurd (true≢false (sym t))
      go false false false ea eo eh (inr t) = absurd (true≢false (sym t))

-- a place of a sound board
abbrev pub standing : Place → Bool
standing q = place_fits q || is_blank q

pub place_there : (p : PlaceMemory) → standing (place_from p) ≡ true → place_memory (place_from p) ≡ p
place_there p e =
    let n = stand_there p.stand p.share (fits (or_cases (place_fits (place_from p)) (is_blank (place_from p)) e)) in
    ap₂ (λ (s h : ℕ). record { image = p.image; stand = s; share = h }) n.0 n.1
  where
    fits : (place_fits (place_from p) ≡ true) ⊎ (is_blank (place_from p) ≡ true) → (place_fits (place_from p) ≡ true) ⊎ (is_absent (place_from p).stand ≡ true)
    fits (inl t) = inl t
    fits (inr t) = inr (and_right (eqb p.image 0) (is_absent (place_from p).stand) t)

pub one_form : (p q : PlaceMemory) → standing (place_from p) ≡ true → place_from p ≡ place_from q → p ≡ q
one_form p q fits same =
    sym (place_there p fits) ∙ ap place_memory same ∙ place_there q (subst (λ (x : Place). standing x ≡ true) same fits)

-- ---- and back

stand_back : (stand : Stand) → Placeable stand → stand_from (stand_number stand) (stand_share stand) ≡ stand
stand_back Absent may = refl
stand_back (Offered share) may = rw (and_right (leb 1 share) (leb share 100) (may refl)) refl
stand_back (Halted share) may = rw (may refl) refl

pub place_back : (p : Place) → Placeable p.stand → place_from (place_memory p) ≡ p
place_back p may = ap (λ (s : Stand). record { image = p.image; stand = s }) (stand_back p.stand may)
