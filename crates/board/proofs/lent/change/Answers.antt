-- The image is settled as the table says of how it stood. Assumes nothing.
use mathlib.Core.Bool.{true≢false}
use native.Mathlib.Omega.{arith}
use Rattle.std.proofs.Common.{rules, ◌<◌, sym, ap, ◌∙◌}
use Rattle.board.proofs.Makings.{is_sound, searched_rise, may_stand, closes, sets, may_come, opens, stays_absent, stays_out}
use Rattle.board.proofs.lent.change.Goals as goal
use Rattle.board.proofs.lent.change.Goals.{else-not-absent-via-then-not-absent+else-count-lt16, else-not-absent-via-else-not-absent}

pub split_at-requires : goal.split_at-requires
split_at-requires g c = let few = (is_sound g.P.Placed.place c.args.places.now c.args.count.now c.args.order c.told-places c.requires.sound).few in omega arith

pub find-requires : goal.find-requires
find-requires g c = searched_rise g.P.Placed.place c.args.places.now c.args.count.now c.args.order c.told-places c.requires.sound c.split_at.ensures.front

pub returns-then-absent : goal.returns-then-absent
returns-then-absent g c =
    closes g.P.Placed.place c.args.places.now c.args.count.now c.args.order c.told-places c.requires.sound c.index-places-at.result c.split_at.ensures.front c.image-image.ensures
    c.stand.ensures c.outcome_of-stand.ensures c.in-Ok.ensures c.of.result c.close_at.new.entries (sym c.absent.ensures ∙ c.if-absent.true) (ap g.P.Placed.place c.of.ensures ∙ g.met.P.Placed.comes_back _ (λ some. absurd (true≢false some))) c.close_at.ensures.inside

pub returns-else-absent : goal.returns-else-absent
returns-else-absent g c =
    let may = may_stand g.P.Placed.place c.args.places.now c.args.count.now c.args.order c.told-places c.requires.sound c.index-places-at.result c.split_at.ensures.front c.image-image.ensures
    c.stand.ensures c.outcome_of-stand.ensures c.in-Ok.ensures c.requires.fits in
    sets g.P.Placed.place c.args.places.now c.args.count.now c.args.order c.told-places c.requires.sound c.index-places-at.result c.split_at.ensures.front c.image-image.ensures
    c.stand.ensures c.outcome_of-stand.ensures c.in-Ok.ensures c.of-else-absent.result (sym c.absent.ensures ∙ c.if-absent.false) (ap g.P.Placed.place c.of-else-absent.ensures ∙ g.met.P.Placed.comes_back _ may)

pub returns-then-count-lt16 : goal.returns-then-count-lt16
returns-then-count-lt16 g c =
    let few = (is_sound g.P.Placed.place c.args.places.now c.args.count.now c.args.order c.told-places c.requires.sound).few in
    let room : c.args.count.now < 16 = omega (arith, few, c.if-count-lt16.true) in
    let may = may_come g.P.Placed.place c.args.places.now c.args.count.now c.args.order c.told-places c.requires.sound c.split_at.ensures.front c.image-image.ensures
    c.outcome_of-stand-in-Err.ensures c.in-Err.ensures c.requires.fits in
    opens g.P.Placed.place c.args.places.now c.args.count.now c.args.order c.told-places c.requires.sound c.split_at.ensures.front c.image-image.ensures
    c.outcome_of-stand-in-Err.ensures c.in-Err.ensures c.of-then-count-lt16.result c.open_at.new.entries (search rules) room (ap g.P.Placed.place c.of-then-count-lt16.ensures ∙ g.met.P.Placed.comes_back _ may) c.open_at.ensures

pub returns-else-not-absent : goal.returns-else-not-absent
returns-else-not-absent g c =
    let few = (is_sound g.P.Placed.place c.args.places.now c.args.count.now c.args.order c.told-places c.requires.sound).few in
    elim c.else-not-absent.branch [
      | else-not-absent-via-then-not-absent+else-count-lt16 w ↦
          stays_out g.P.Placed.place c.args.places.now c.args.count.now c.args.order c.told-places c.requires.sound c.split_at.ensures.front c.image-image.ensures
          c.outcome_of-stand-in-Err.ensures c.in-Err.ensures (search rules) (omega (arith, few, w.if-count-lt16.false))
      | else-not-absent-via-else-not-absent w ↦
          stays_absent g.P.Placed.place c.args.places.now c.args.count.now c.args.order c.told-places c.requires.sound c.split_at.ensures.front c.image-image.ensures
          c.outcome_of-stand-in-Err.ensures c.in-Err.ensures (search rules)
    ]
