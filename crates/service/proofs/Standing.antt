-- What stands in a place of a board's flat memory: what its numbers tell of it. Assumes nothing.
use mathlib.Core.Path.{◌≡◌, refl, sym, ap, ◌∙◌}
use mathlib.Core.Bool.{Bool, true, false, not, ◌&&◌, and-true, and-false, and_assoc}
use Prim.Native.Nat.{ℕ, zero, suc, ◌+◌, ◌≤◌, ◌<◌}
use native.Mathlib.Omega.{arith}
use borrow.Author.Tests.{eqb-true, ne_eqb, le-leb, lt-leb}
use lib.Dec.{leb, eqb}
use Rattle.board.specs.declared.Stand.{Stand}
use Rattle.board.specs.Board.{stand_fits, is_absent}
use Rattle.service.specs.declared.PlaceMemory.{PlaceMemory}
use Rattle.service.specs.Memory.{stand_from, place_from, place_memory}
use Rattle.service.specs.Inside.{blank_in}
use Rattle.service.specs.Stands.{by, place_back}
use Rattle.lists.proofs.Zeros.{sum_zero}

module _ (stand share : ℕ) where
  -- ---- whether it fits

  pub over_fails : 100 < share → stand_fits (stand_from stand share) ≡ false
  over_fails h = rw (ne_eqb share 0 (λ e. omega arith), lt-leb _ _ h, and-false (eqb stand 0), and-false (eqb stand 1), and-false (eqb stand 2)) refl

  pub halted_fits : stand ≡ 2 → share ≤ 100 → stand_fits (stand_from stand share) ≡ true
  halted_fits e h = rw (e, le-leb _ _ h) (le-leb share 100 h)

  some : (k : ℕ) → leb 1 k ≡ not (eqb k 0)
  some zero = refl
  some (suc k) = le-leb 1 (suc k) (omega arith) ∙ sym (ap not (ne_eqb (suc k) 0 (λ e. omega arith)))

  pub offered_fits : (stand ≡ 2 → ⊥) → share ≤ 100 → stand_fits (stand_from stand share) ≡ (eqb stand 1 && not (eqb share 0))
  offered_fits ne h = go (eqb stand 1) refl
    where
      other : (a : Bool) → stand_fits (by stand share a false false) ≡ false
      other true = refl
      other false = refl

      go : (b : Bool) → eqb stand 1 ≡ b → stand_fits (stand_from stand share) ≡ (b && not (eqb share 0))
      go true e = rw (eqb-true stand 1 e, le-leb _ _ h) (ap (λ (b : Bool). leb 1 share && b) (le-leb share 100 h) ∙ and-true (leb 1 share) ∙ some share)
      go false e = rw (e, ne_eqb stand 2 ne) (other (eqb stand 0 && eqb share 0))

  -- ---- whether it is absent

  pub from_absent : is_absent (stand_from stand share) ≡ (eqb stand 0 && eqb share 0)
  from_absent = go (eqb stand 0 && eqb share 0) (eqb stand 1 && leb share 100) (eqb stand 2 && leb share 100)
    where
      go : (a o h : Bool) → is_absent (by stand share a o h) ≡ a
      go true o h = refl
      go false true h = refl
      go false false true = refl
      go false false false = refl

-- a stand that fits comes back from the memory that was made of it
pub placed_in : (p : PlaceMemory) (image : ℕ) (stand : Stand) → p ≡ place_memory (record { image = image; stand = stand }) → stand_fits stand ≡ true → place_from p ≡ record { image = image; stand = stand }
placed_in p image stand e f = ap place_from e ∙ place_back (record { image = image; stand = stand }) (λ some. f)

-- an unused place has three zeros, and they are three where their sum is
pub blank_sum : (p : PlaceMemory) → eqb (p.image + p.stand + p.share) 0 ≡ blank_in p
blank_sum p =
    sum_zero (p.image + p.stand) p.share
    ∙ ap (λ (b : Bool). b && eqb p.share 0) (sum_zero p.image p.stand)
    ∙ and_assoc (eqb p.image 0) (eqb p.stand 0) (eqb p.share 0)
    ∙ ap (λ (b : Bool). eqb p.image 0 && b) (sym (from_absent p.stand p.share))
