-- Each turn tests the first of what is left, and what is left still decides. Assumes nothing.
use Rattle.lists.proofs.Steps.{Stepped}
use Rattle.board.specs.Board.{place_fits, before}
use Rattle.board.proofs.sound.is_sound.Given as goal

abbrev pub invariant-loop-p : goal.invariant-loop-p
invariant-loop-p g l =
    let place = g.P.Placed.place in
    Stepped (λ p. place_fits (place p)) (λ p q. before (place p) (place q)) l.used l.previous l.p-index
