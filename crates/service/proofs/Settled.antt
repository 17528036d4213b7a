-- A board's flat memory and the board that it stands for: the memory of a sound board is its own, and what an order leaves. Assumes nothing.
use mathlib.Core.Path.{◌≡◌, sym, ap, ap₂, ◌∙◌}
use mathlib.Core.Bool.{true}
use mathlib.Core.List.{List, map}
use Prim.Native.Nat.{ℕ}
use Rattle.std.specs.Prelude.{Result, Ok, Err, OnErr}
use Rattle.lists.specs.Lists.{all}
use Rattle.lists.proofs.Bools.{or_true_left, or_true_right}
use Rattle.lists.proofs.Maps.{all_of_lem, all_parts, map_there}
use Rattle.orders.specs.declared.Order.{Order}
use Rattle.host.specs.Answers.{unless}
use Rattle.board.specs.declared.Refusal.{Refusal}
use Rattle.board.specs.declared.Refusal.TheVariants.{Unsound, OutOfRange}
use Rattle.board.specs.Board.{place_fits, is_blank, sound, says, board_refusal, board_after}
use Rattle.board.proofs.Boards.{sound_is}
use Rattle.board.proofs.Laws.{sound_after}
use Rattle.service.specs.declared.PlaceMemory.{PlaceMemory}
use Rattle.service.specs.declared.BoardMemory.{BoardMemory}
use Rattle.service.specs.Memory.{place_from, board_from, place_memory, board_memory}
use Rattle.service.specs.Calls.{order_left}
use Rattle.service.specs.Stands.{standing, place_there}

pub memory_of : (f : BoardMemory) → sound (board_from f) ≡ true → board_memory (board_from f) ≡ f
memory_of f e =
    let s = sound_is (board_from f) e in
    let each : all standing (map place_from f.places) ≡ true =
    all_parts place_fits is_blank standing (λ q. or_true_left (place_fits q) (is_blank q)) (λ q. or_true_right (place_fits q) (is_blank q)) f.count (map place_from f.places) s.fit s.rest in
    ap (λ (l : List PlaceMemory). record { count = f.count; places = l }) (map_there place_from place_memory (λ p. standing (place_from p)) place_there f.places (sym (all_of_lem place_from standing f.places) ∙ each))

-- ---- what is left, from what was answered and what the memory then stands for

module _ (f new : BoardMemory) (o : Order) where
  abbrev left_by : ℕ → BoardMemory
  left_by k = unless k (board_memory (board_after (board_from f) o)) f

  accepted_left : 0 ≡ board_refusal (board_from f) o → board_from new ≡ board_after (board_from f) o → new ≡ order_left f o
  accepted_left zero is = sym (memory_of new (ap sound is ∙ sound_after (board_from f) o (sym zero))) ∙ ap board_memory is ∙ ap left_by zero

  pub is_left : (r : Result (Unit {0}) Refusal) → says r ≡ board_refusal (board_from f) o → board_from new ≡ board_after (board_from f) o → OnErr r ((new.places ≡ f.places) × (new.count ≡ f.count))
      → new ≡ order_left f o
  is_left (Ok done) e is same = accepted_left e is
  is_left (Err Unsound) e is same = ap₂ (λ (n : ℕ) (l : List PlaceMemory). record { count = n; places = l }) same.1 same.0 ∙ ap left_by e
  is_left (Err OutOfRange) e is same = ap₂ (λ (n : ℕ) (l : List PlaceMemory). record { count = n; places = l }) same.1 same.0 ∙ ap left_by e
