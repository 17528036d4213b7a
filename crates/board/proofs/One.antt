-- The promise of each public function admits one result only: the answer, and the board that is left. Assumes nothing.
use mathlib.Core.Path.{◌≡◌, refl, sym, ap, ap₂, ◌∙◌, subst}
use mathlib.Core.Bool.{Bool, true, cond, ◌||◌}
use mathlib.Core.List.{List, [], ◌∷◌, map}
use Prim.Native.Nat.{ℕ}
use lib.Dec.{eqb}
use Rattle.std.specs.declared.result.Result.{Result}
use Rattle.std.specs.declared.result.Result.TheVariants.{Ok, Err}
use Rattle.std.specs.Prelude.{OnErr}
use Rattle.lists.specs.Lists.{all}
use Rattle.lists.proofs.Bools.{and_left_lem, and_right, or_true_left, or_true_right}
use Rattle.lists.proofs.Maps.{all_of_lem, all_parts}
use Rattle.lists.proofs.One.{one_result, one_answer, one_call}
use Rattle.orders.specs.declared.Order.{Order}
use Rattle.board.specs.declared.Stand.{Stand}
use Rattle.board.specs.declared.Place.{Place}
use Rattle.board.specs.declared.Board.{Board}
use Rattle.board.specs.declared.Refusal.{Refusal}
use Rattle.board.specs.declared.Refusal.TheVariants.{Unsound, OutOfRange}
use Rattle.board.specs.declared.Applied.{Applied}
use Rattle.board.specs.Board.{place_fits, is_blank, is_absent, sound, outcome, board_refusal, board_after, board_in, number, says}
use Rattle.board.proofs.Boards.{sound_is}
use Rattle.board.proofs.Laws.{sound_after}

abbrev Answer : Type 0
Answer = Result (Unit {0}) Refusal

answer_of : ℕ → Answer
answer_of n = cond (eqb n 0) (Ok tt) (cond (eqb n 9) (Err Unsound) (Err OutOfRange))

answer_back : (a : Answer) → answer_of (says a) ≡ a
unfolding answer_of
answer_back (Ok done) = refl
answer_back (Err Unsound) = refl
answer_back (Err OutOfRange) = refl

-- over a lent board, c and d at exit
pub apply_one : (b : Board) (o : Order) (c d : Board) (r s : Answer)
    → (c ≡ board_after b o) × (says r ≡ board_refusal b o) → (d ≡ board_after b o) × (says s ≡ board_refusal b o) → (c ≡ d) × (r ≡ s)
apply_one b o = one_call says answer_of answer_back

-- over places in whatever form they are kept, each place of a sound board in one: c and d, with so many in use, at exit
module _ {P : Type 0} (place : P → Place) (exact : (x y : P) → (place_fits (place x) || is_blank (place x)) ≡ true → place x ≡ place y → x ≡ y) where
  abbrev stands_in : P → Bool
  stands_in x = place_fits (place x) || is_blank (place x)

  same_places : (c d : List P) → all stands_in c ≡ true → map place c ≡ map place d → c ≡ d
  same_places [] [] fit same = refl
  same_places [] (y ∷ d) fit same = cc
  same_places (x ∷ c) [] fit same = cc
  same_places (x ∷ c) (y ∷ d) fit same =
      ap₂ (λ (z : P) (l : List P). z ∷ l) (exact x y (and_left_lem (stands_in x) (all stands_in c) fit) (cc (same)))
      (same_places c d (and_right (stands_in x) (all stands_in c) fit) (cc (same)))

  all_stand : (c : List P) (m : ℕ) → sound (board_in place c m) ≡ true → all stands_in c ≡ true
  all_stand c m e =
      let s = sound_is (board_in place c m) e in
      sym (all_of_lem place (λ (q : Place). place_fits q || is_blank q) c)
      ∙ all_parts place_fits is_blank (λ (q : Place). place_fits q || is_blank q) (λ q. or_true_left (place_fits q) (is_blank q)) (λ q. or_true_right (place_fits q) (is_blank q)) m (map place c) s.fit s.rest

  same_board : (c d : List P) (m n : ℕ) → sound (board_in place c m) ≡ true → board_in place c m ≡ board_in place d n → (c ≡ d) × (m ≡ n)
  same_board c d m n e same = (same_places c d (all_stand c m e) (ap (λ (b : Board). b.places) same), ap (λ (b : Board). b.count) same)

  module _ (old : List P) (count : ℕ) (o : Order) where
    abbrev was : Board
    was = board_in place old count

    abbrev Promise : List P → ℕ → Answer → Type 0
    Promise c m r = (board_in place c m ≡ board_after was o) × (says r ≡ board_refusal was o) × OnErr r ((c ≡ old) × (m ≡ count))

    accepted : (c d : List P) (m n : ℕ) → board_refusal was o ≡ 0 → board_in place c m ≡ board_after was o → board_in place d n ≡ board_after was o → (c ≡ d) × (m ≡ n)
    accepted c d m n none x y = same_board c d m n (ap sound x ∙ sound_after was o none) (one_result x y)

    left_one : (c d : List P) (m n : ℕ) (r : Answer) → Promise c m r → Promise d n r → (c ≡ d) × (m ≡ n)
    left_one c d m n (Ok done) x y = accepted c d m n (sym x.1) x.0 y.0
    left_one c d m n (Err Unsound) x y = (one_result x.2.0 y.2.0, one_result x.2.1 y.2.1)
    left_one c d m n (Err OutOfRange) x y = (one_result x.2.0 y.2.0, one_result x.2.1 y.2.1)

    pub apply_in_one : (c d : List P) (m n : ℕ) (r s : Answer) → Promise c m r → Promise d n s → (c ≡ d) × (m ≡ n) × (r ≡ s)
    apply_in_one c d m n r s x y =
        let same : r ≡ s = one_answer says answer_of answer_back r s x.1 y.1 in
        let left = left_one c d m n r x (subst (λ (a : Answer). Promise d n a) (sym same) y) in
        (left.0, left.1, same)

-- by value
pub after_order_one : (b : Board) (o : Order) (r s : Applied)
    → (r.board ≡ board_after b o) × (says r.answer ≡ board_refusal b o) → (s.board ≡ board_after b o) × (says s.answer ≡ board_refusal b o) → r ≡ s
after_order_one b o r s x y =
    let e = apply_one b o r.board s.board r.answer s.answer x y in
    ap₂ (λ (c : Board) (a : Answer). record { board = c; answer = a }) e.0 e.1

-- what stands for a place, in whatever form
pub of_one : {P : Type 0} (of_place : Place → P) (p : Place) (r s : P) → r ≡ of_place p → s ≡ of_place p → r ≡ s
of_one of_place p r s = one_result

-- of one image
pub outcome_of_one : (o : Order) (old r s : Stand) → r ≡ outcome o old → s ≡ outcome o old → r ≡ s
outcome_of_one o old r s = one_result

pub absent_one : (stand : Stand) (r s : Bool) → r ≡ is_absent stand → s ≡ is_absent stand → r ≡ s
absent_one stand r s = one_result

-- of a refusal's number
pub refusal_number_one : (refusal : Refusal) (r s : ℕ) → r ≡ number refusal → s ≡ number refusal → r ≡ s
refusal_number_one refusal r s = one_result
