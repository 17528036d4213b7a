-- Settling one image: it then stands so, no other stands otherwise, and the images still rise and fit. Assumes nothing.
use mathlib.Core.Path.{◌≡◌, refl, sym, ap, ◌∙◌, subst}
use mathlib.Core.Bool.{Bool, true, false, cond, ◌&&◌, true≢false}
use mathlib.Core.List.{List, [], ◌∷◌, ◌++◌, append-nil}
use Prim.Native.Nat.{ℕ, suc, ◌≤◌, ◌<◌}
use native.Mathlib.Omega.{arith}
use native.Mathlib.Decide.{ℕ_discrete, dec_lt}
use borrow.Author.Tests.{eq-eqb, ne_eqb, lt-ltb, ltb-true}
use lib.Dec.{eqb, ltb}
use lib.ListN.{length, length-append}
use Rattle.lists.specs.Lists.{all, rising_from, rising}
use Rattle.lists.proofs.Bools.{and_left_lem, and_right}
use Rattle.lists.proofs.Order.{rising_tail, from_less}
use Rattle.board.specs.declared.Stand.{Stand}
use Rattle.board.specs.declared.Stand.TheVariants.{Absent, Offered, Halted}
use Rattle.board.specs.declared.Place.{Place}
use Rattle.board.specs.Board.{stand_fits, place_fits, is_absent, before, stands, placed, settle}
use Rattle.board.proofs.Placing.{none_after, settle_past, settle_there, settle_before, stands_past}

-- where a place's image lies from the one that is settled
data Lies (image : ℕ) (p : Place) : Type 0 where
  past : p.image < image → Lies image p
  there : p.image ≡ image → Lies image p
  before_it : image < p.image → Lies image p

lies : (image : ℕ) (p : Place) → Lies image p
lies image p = go (dec_lt p.image image) (ℕ_discrete p.image image)
  where
    go : Dec (p.image < image) → Dec (p.image ≡ image) → Lies image p
    go (yes h) d = past h
    go (no h) (yes e) = there e
    go (no h) (no e) = before_it (omega arith)

before_trans : (x y z : Place) → before x y ≡ true → before y z ≡ true → before x z ≡ true
before_trans x y z a b =
    let xy : x.image < y.image = ltb-true _ _ a in
    let yz : y.image < z.image = ltb-true _ _ b in
    let xz : x.image < z.image = omega arith in
    lt-ltb _ _ xz

module _ (image : ℕ) (stand : Stand) where
  -- in front of a list in which the image is not
  placed_stands : (j : ℕ) (l : List Place) → stands image l ≡ Absent → stands j (placed image stand ++ l) ≡ cond (eqb j image) stand (stands j l)
  placed_stands j l none = go stand (ℕ_discrete j image)
    where
      go : (s : Stand) → Dec (j ≡ image) → stands j (placed image s ++ l) ≡ cond (eqb j image) s (stands j l)
      go Absent (yes e) = simp (eq-eqb _ _ e) (ap (λ (k : ℕ). stands k l) e ∙ none)
      go Absent (no ne) = simp (ne_eqb _ _ ne)
      go (Offered share) (yes e) = simp (eq-eqb _ _ e, eq-eqb _ _ (sym e))
      go (Offered share) (no ne) = simp (ne_eqb _ _ ne, ne_eqb _ _ (λ (e : image ≡ j). ne (sym e)))
      go (Halted share) (yes e) = simp (eq-eqb _ _ e, eq-eqb _ _ (sym e))
      go (Halted share) (no ne) = simp (ne_eqb _ _ ne, ne_eqb _ _ (λ (e : image ≡ j). ne (sym e)))

  -- ---- what the images say after it

  pub settle_stands : (j : ℕ) (l : List Place) → rising before l ≡ true → stands j (settle image stand l) ≡ cond (eqb j image) stand (stands j l)
  settle_stands j [] up = ap (stands j) (sym (append-nil (placed image stand))) ∙ placed_stands j [] refl
  settle_stands j (p ∷ l) up = go (lies image p) (ℕ_discrete p.image j) (settle_stands j l (rising_tail before p l up))
    where
      go : Lies image p → Dec (p.image ≡ j) → stands j (settle image stand l) ≡ cond (eqb j image) stand (stands j l)
          → stands j (settle image stand (p ∷ l)) ≡ cond (eqb j image) stand (stands j (p ∷ l))
      go (past h) (yes e) ih =
          let ne : j ≡ image → ⊥ = λ q. omega arith in
          ap (stands j) (settle_past image p l stand h) ∙ (simp (eq-eqb _ _ e, ne_eqb _ _ ne))
      go (past h) (no ne) ih = ap (stands j) (settle_past image p l stand h) ∙ (simp (ne_eqb _ _ ne) ih)
      go (there e) (yes q) ih =
          let same : j ≡ image = sym q ∙ e in
          ap (stands j) (settle_there image p l stand e) ∙ placed_stands j l (none_after image p l (omega arith) up) ∙ (simp (eq-eqb _ _ same))
      go (there e) (no ne) ih =
          ap (stands j) (settle_there image p l stand e) ∙ placed_stands j l (none_after image p l (omega arith) up) ∙ (simp (ne_eqb _ _ ne))
      go (before_it h) d ih =
          let ne : p.image ≡ image → ⊥ = λ e. omega arith in
          ap (stands j) (settle_before image p l stand h) ∙ placed_stands j (p ∷ l) (simp (ne_eqb _ _ ne) (none_after image p l (omega arith) up))

  -- ---- the images still rise

  abbrev own : Place
  own = record { image = image; stand = stand }

  placed_from : (y : Place) (l : List Place) → y.image < image → rising_from before own l ≡ true → rising_from before y l ≡ true
      → rising_from before y (placed image stand ++ l) ≡ true
  placed_from y l h up over = go (is_absent stand) refl
    where
      go : (t : Bool) → is_absent stand ≡ t → rising_from before y (cond t [] (own ∷ []) ++ l) ≡ true
      go true e = over
      go false e = rw (lt-ltb _ _ h, up)

  placed_rises : (l : List Place) → rising_from before own l ≡ true → rising before l ≡ true → rising before (placed image stand ++ l) ≡ true
  placed_rises l up over = go (is_absent stand) refl
    where
      go : (t : Bool) → is_absent stand ≡ t → rising before (cond t [] (own ∷ []) ++ l) ≡ true
      go true e = over
      go false e = up

  own_from_lem : (p : Place) (l : List Place) → p.image ≡ image → rising_from before p l ≡ true → rising_from before own l ≡ true
  own_from_lem p [] e up = refl
  own_from_lem p (q ∷ l) e up = subst (λ (i : ℕ). (ltb i q.image && rising_from before q l) ≡ true) e up

  own_before : (p : Place) (l : List Place) → image < p.image → rising_from before p l ≡ true → rising_from before own (p ∷ l) ≡ true
  own_before p l h up = rw (lt-ltb _ _ h, up)

  settle_from : (y : Place) (l : List Place) → y.image < image → rising_from before y l ≡ true → rising_from before y (settle image stand l) ≡ true
  settle_from y [] h up = subst (λ (t : List Place). rising_from before y t ≡ true) (append-nil (placed image stand)) (placed_from y [] h refl refl)
  settle_from y (p ∷ l) h up = go (lies image p) (λ k. settle_from p l k pl)
    where
      yp : ltb y.image p.image ≡ true
      yp = and_left_lem (ltb y.image p.image) (rising_from before p l) up

      pl : rising_from before p l ≡ true
      pl = and_right (ltb y.image p.image) (rising_from before p l) up

      go : Lies image p → (p.image < image → rising_from before p (settle image stand l) ≡ true) → rising_from before y (settle image stand (p ∷ l)) ≡ true
      go (past k) ih = subst (λ (t : List Place). rising_from before y t ≡ true) (sym (settle_past image p l stand k)) (rw (yp, ih k))
      go (there e) ih =
          subst (λ (t : List Place). rising_from before y t ≡ true) (sym (settle_there image p l stand e))
          (placed_from y l h (own_from_lem p l e pl) (from_less before before_trans y p l yp pl))
      go (before_it k) ih =
          subst (λ (t : List Place). rising_from before y t ≡ true) (sym (settle_before image p l stand k)) (placed_from y (p ∷ l) h (own_before p l k pl) up)

  pub settle_rises : (l : List Place) → rising before l ≡ true → rising before (settle image stand l) ≡ true
  settle_rises [] up = subst (λ (t : List Place). rising before t ≡ true) (append-nil (placed image stand)) (placed_rises [] refl refl)
  settle_rises (p ∷ l) up = go (lies image p)
    where
      go : Lies image p → rising before (settle image stand (p ∷ l)) ≡ true
      go (past h) = subst (λ (t : List Place). rising before t ≡ true) (sym (settle_past image p l stand h)) (settle_from p l h up)
      go (there e) =
          subst (λ (t : List Place). rising before t ≡ true) (sym (settle_there image p l stand e)) (placed_rises l (own_from_lem p l e up) (rising_tail before p l up))
      go (before_it h) = subst (λ (t : List Place). rising before t ≡ true) (sym (settle_before image p l stand h)) (placed_rises (p ∷ l) (own_before p l h up) up)

  -- ---- and fit, where the one that is settled does

  placed_fit : (is_absent stand ≡ false → stand_fits stand ≡ true) → (l : List Place) → all place_fits l ≡ true → all place_fits (placed image stand ++ l) ≡ true
  placed_fit fits l e = go (is_absent stand) refl
    where
      go : (t : Bool) → is_absent stand ≡ t → all place_fits (cond t [] (own ∷ []) ++ l) ≡ true
      go true q = e
      go false q = rw (fits q, e)

  pub settle_fit : (is_absent stand ≡ false → stand_fits stand ≡ true) → (l : List Place) → all place_fits l ≡ true → all place_fits (settle image stand l) ≡ true
  settle_fit fits [] e = subst (λ (t : List Place). all place_fits t ≡ true) (append-nil (placed image stand)) (placed_fit fits [] refl)
  settle_fit fits (p ∷ l) e = go (lies image p) (settle_fit fits l fl)
    where
      fp : place_fits p ≡ true
      fp = and_left_lem (place_fits p) (all place_fits l) e

      fl : all place_fits l ≡ true
      fl = and_right (place_fits p) (all place_fits l) e

      go : Lies image p → all place_fits (settle image stand l) ≡ true → all place_fits (settle image stand (p ∷ l)) ≡ true
      go (past h) ih = subst (λ (t : List Place). all place_fits t ≡ true) (sym (settle_past image p l stand h)) (rw (fp, ih))
      go (there q) ih = subst (λ (t : List Place). all place_fits t ≡ true) (sym (settle_there image p l stand q)) (placed_fit fits l fl)
      go (before_it h) ih = subst (λ (t : List Place). all place_fits t ≡ true) (sym (settle_before image p l stand h)) (placed_fit fits (p ∷ l) e)

  -- ---- and are no more, where the image was one of them

  placed_short : length (placed image stand) ≤ 1
  placed_short = go (is_absent stand)
    where
      go : (t : Bool) → length (cond t [] (own ∷ [])) ≤ 1
      go true = omega arith
      go false = omega arith

  pub settle_short : (l : List Place) → rising before l ≡ true → is_absent (stands image l) ≡ false → length (settle image stand l) ≤ length l
  settle_short [] up some = absurd (true≢false some)
  settle_short (p ∷ l) up some = go (lies image p) (settle_short l (rising_tail before p l up))
    where
      go : Lies image p → (is_absent (stands image l) ≡ false → length (settle image stand l) ≤ length l) → length (settle image stand (p ∷ l)) ≤ suc (length l)
      go (past h) ih =
          let rest = ih (ap is_absent (sym (stands_past image p l h)) ∙ some) in
          subst (λ (t : List Place). length t ≤ suc (length l)) (sym (settle_past image p l stand h)) (omega arith)
      go (there e) ih =
          subst (λ (t : List Place). length t ≤ suc (length l)) (sym (settle_there image p l stand e))
          (rw (length-append (placed image stand) l) (omega (arith, placed_short)))
      go (before_it h) ih =
          let ne : p.image ≡ image → ⊥ = λ e. omega arith in
          let gone : stands image (p ∷ l) ≡ Absent = simp (ne_eqb _ _ ne) (none_after image p l (omega arith) up) in
          absurd (true≢false (sym (ap is_absent gone) ∙ some))
