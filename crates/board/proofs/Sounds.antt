-- The tests of a board's soundness, in whatever form its places are kept. Assumes nothing.
use mathlib.Core.Path.{◌≡◌, refl, sym, ap, ◌∙◌}
use mathlib.Core.Bool.{Bool, true, false, ◌&&◌}
use mathlib.Core.List.{List, [], ◌∷◌, map}
use Prim.Native.Nat.{ℕ, ◌≤◌, ◌<◌}
use borrow.Author.Tests.{le-leb, lt-leb}
use lib.ListN.{take, drop}
use Rattle.std.specs.List.{list_all, take-map, drop-map}
use Rattle.lists.specs.Lists.{all, rising}
use Rattle.lists.specs.Tests.{all_of}
use Rattle.lists.proofs.Maps.{all_of_lem, rising_of}
use Rattle.lists.proofs.TestLaws.{all_chain, all_miss}
use Rattle.board.specs.declared.Place.{Place}
use Rattle.board.specs.Board.{place_fits, is_blank, before, sound, board_in}

module _ {P : Type 0} (place : P → Place) where
  pub all_map : (p : Place → Bool) (l : List P) → list_all (λ x. p (place x)) l ≡ all p (map place l)
  all_map p [] = refl
  all_map p (x ∷ l) = ap (λ (b : Bool). p (place x) && b) (all_map p l)

  module _ (l : List P) (n : ℕ) where
    pub too_many : 16 < n → false ≡ sound (board_in place l n)
    unfolding sound all_of
    too_many h = rw (lt-leb _ _ h) refl

    module _ {used : List P} (u : used ≡ take n l) where
      fits_in : all (λ x. place_fits (place x)) used ≡ all place_fits (take n (map place l))
      fits_in = ap (all (λ x. place_fits (place x))) u ∙ sym (all_of_lem place place_fits (take n l)) ∙ ap (all place_fits) (sym (take-map place n l))

      rise_in : rising (λ x y. before (place x) (place y)) used ≡ rising before (take n (map place l))
      rise_in = ap (rising (λ x y. before (place x) (place y))) u ∙ sym (rising_of place before (take n l)) ∙ ap (rising before) (sym (take-map place n l))

      -- a place in use that does not fit, or does not rise
      pub unfit : all (λ x. place_fits (place x)) used ≡ false → false ≡ sound (board_in place l n)
      unfolding sound
      unfit e = sym (all_miss _ 1 (sym fits_in ∙ e))

      pub unordered : rising (λ x y. before (place x) (place y)) used ≡ false → false ≡ sound (board_in place l n)
      unfolding sound
      unordered e = sym (all_miss _ 2 (sym rise_in ∙ e))

    -- the places in use fit and rise, so the others decide
    pub whole : {used unused : List P} {rest : Bool} → n ≤ 16 → used ≡ take n l → all (λ x. place_fits (place x)) used ≡ true
        → rising (λ x y. before (place x) (place y)) used ≡ true → rest ≡ list_all (λ x. is_blank (place x)) unused → unused ≡ drop n l → rest ≡ sound (board_in place l n)
    unfolding sound all_of
    whole {used} {unused} {rest} h u f a r v =
        let fits : all place_fits (take n (map place l)) ≡ true = sym (fits_in u) ∙ f in
        let rises : rising before (take n (map place l)) ≡ true = sym (rise_in u) ∙ a in
        let blank : rest ≡ all is_blank (drop n (map place l)) = r ∙ all_map is_blank unused ∙ ap (λ (t : List P). all is_blank (map place t)) v ∙ ap (all is_blank) (sym (drop-map place n l)) in
        rw (blank, le-leb _ _ h, fits, rises) (all_chain (all is_blank (drop n (map place l))) [])
