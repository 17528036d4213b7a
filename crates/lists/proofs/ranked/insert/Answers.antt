-- Those that come after x move up by one place, and x goes before them. Assumes nothing.
use mathlib.Core.Path.{sym, ◌∙◌}
use Rattle.lists.proofs.Ranks.{put_none, put_is, put_rising}
use Rattle.lists.proofs.ranked.insert.Goals as goal

pub returns-then-used-entries-clause-value : goal.returns-then-used-entries-clause-value
returns-then-used-entries-clause-value g c = sym (put_none g.T.Ranked.before c.args.x c.args.used c.args.entries.now c.if-used-entries.true)

pub returns-clause-value : goal.returns-clause-value
returns-clause-value g c =
    let a = c.args in
    let at = c.place_of-at.ensures in
    put_is g.T.Ranked.before a.x c.copy_within.new.self a.entries.now a.used c.place_of-at.result c.if-used-entries.false at.bound at.behind at.at c.copy_within.ensures.after

pub returns-clause-in_order : goal.returns-clause-in_order
returns-clause-in_order g c =
    λ fits up.
    let a = c.args in
    let at = c.place_of-at.ensures in
    put_is g.T.Ranked.before a.x c.copy_within.new.self a.entries.now a.used c.place_of-at.result fits at.bound at.behind at.at c.copy_within.ensures.after
    ∙ put_rising g.T.Ranked.before a.x g.met.T.Ranked.transitive a.used a.entries.now fits up
