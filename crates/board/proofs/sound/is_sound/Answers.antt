-- Each turn tests the first of what is left, and what is left still decides; then the others are blank. Assumes nothing.
use Rattle.std.proofs.Common.{rules, arith}
use borrow.Author.Tests.{tests}
use Rattle.std.specs.Slice.Iter.{iter_rest}
use Rattle.std.proofs.lemmas.Iterator.{YieldsList-from_slice}
use Rattle.std.proofs.lemmas.Iterator.Search.{all_from_yields_List}
use Rattle.std.proofs.lemmas.List.{take_all}
use Rattle.lists.proofs.Loops.{item_next}
use Rattle.lists.proofs.Steps.{step_unfit, step_unordered, step_turn, step_fit, step_rise}
use Rattle.board.specs.Board.{is_blank}
use Rattle.board.proofs.Sounds.{too_many, unfit, unordered, whole}
use Rattle.board.proofs.sound.is_sound.Goals as goal

pub returns-then-count-gt16 : goal.returns-then-count-gt16
returns-then-count-gt16 g c = too_many g.P.Placed.place c.args.places.now c.args.count c.if-count-gt16.true

pub returns-then-not-is_fit : goal.returns-then-not-is_fit
returns-then-not-is_fit g c =
    let next = item_next _ c.loop-p-test.true c.p-item.is in
    unfit g.P.Placed.place c.args.places.now c.args.count c.split_at.ensures.front (step_unfit c.loop-p.invariant _ next c.is_fit.ensures c.if-not-is_fit.true)

pub returns-then-not-may_follow : goal.returns-then-not-may_follow
returns-then-not-may_follow g c =
    let next = item_next _ c.loop-p-test.true c.p-item.is in
    unordered g.P.Placed.place c.args.places.now c.args.count c.split_at.ensures.front (step_unordered c.loop-p.invariant _ next c.may_follow.ensures c.if-not-may_follow.true)

pub loop-p-preserved : goal.loop-p-preserved
loop-p-preserved g c =
    let next = item_next _ c.loop-p-test.true c.p-item.is in
    step_turn c.loop-p.invariant _ next c.is_fit.ensures c.if-not-is_fit.false c.may_follow.ensures c.if-not-may_follow.false

pub returns : goal.returns
returns g c =
    let place = g.P.Placed.place in
    let rest = all_from_yields_List (λ p. is_blank (place p)) _ _ _ c.all.ensures.ran (YieldsList-from_slice (iter_rest c.iter.result) cc) (λ x b q k. search (rules, tests)) in
    let inv = c.loop-p.invariant in
    let end = c.loop-p-test.false in
    whole place c.args.places.now c.args.count c.if-count-gt16.false c.split_at.ensures.front (step_fit inv end) (step_rise inv end) rest (search (rules, arith, take_all))
