-- The order of checks; an accepted order is what `change` ensures. Assumes nothing.
use mathlib.Core.Path.{◌≡◌, refl, sym, ◌∙◌}
use mathlib.Core.Bool.{true, false}
use Rattle.board.specs.Board.{sound, board_in, board_tests}
use Rattle.orders.specs.Orders.{share_fits}
use Rattle.board.proofs.lent.apply_in.Goals as goal

pub returns-then-not-is_sound : goal.returns-then-not-is_sound
unfolding board_tests
returns-then-not-is_sound g c =
    let bad : sound (board_in g.P.Placed.place c.args.places.now c.args.count.now) ≡ false = sym c.is_sound.ensures ∙ c.if-not-is_sound.true in
    record { board = simp bad refl; answer = simp bad refl; refused = (refl, refl) }

pub returns-then-not-share_fits : goal.returns-then-not-share_fits
unfolding board_tests
returns-then-not-share_fits g c =
    let good : sound (board_in g.P.Placed.place c.args.places.now c.args.count.now) ≡ true = sym c.is_sound.ensures ∙ c.if-not-is_sound.false in
    let out : share_fits c.args.order ≡ false = sym c.share_fits.ensures ∙ c.if-not-share_fits.true in
    record { board = simp (good, out) refl; answer = simp (good, out) refl; refused = (refl, refl) }

pub returns : goal.returns
unfolding board_tests
returns g c =
    let good : sound (board_in g.P.Placed.place c.args.places.now c.args.count.now) ≡ true = sym c.is_sound.ensures ∙ c.if-not-is_sound.false in
    let fits : share_fits c.args.order ≡ true = sym c.share_fits.ensures ∙ c.if-not-share_fits.false in
    record { board = simp (good, fits) c.change.ensures; answer = simp (good, fits) refl; refused = tt }
