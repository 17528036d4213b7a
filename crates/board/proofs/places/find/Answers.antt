-- A binary search among rising images. Assumes nothing.
use Rattle.std.proofs.Common.{rules, arith}
use Rattle.std.proofs.lemmas.List.Sorted.{answers_always}
use Rattle.board.proofs.Placing.{searched_for}
use Rattle.board.proofs.places.find.Goals as goal

pub returns : goal.returns
returns g c =
    let facts = c.binary_search_by_key.ensures in
    let by_image = facts.position (λ p. (g.P.Placed.place p).image) (answers_always _ _ _ (λ f a r h called. search rules)) in
    searched_for g.P.Placed.place c.args.image c.args.used.now c.requires c.binary_search_by_key.result facts.bound by_image (omega arith)
