-- The first places hold what the walk gave. Assumes nothing.
use mathlib.Core.Path.{◌≡◌, ◌∙◌}
use Prim.Native.Nat.{◌+◌}
use mathlib.Core.List.{List}
use Prim.Native.Nat.{ℕ}
use lib.ListN.{get_or}
use Rattle.lists.proofs.Listing.{table_start, table_next}
use Rattle.schedule.specs.Shape.{place, value}
use Rattle.schedule.specs.Schedule.{copy_at}
use Rattle.schedule.proofs.Walks.{past_head}
use Rattle.schedule.proofs.taking.Records.delays.Goals as goal

abbrev copies : List ℕ → ℕ → ℕ → ℕ
copies bs first i = copy_at bs (value bs (first + i))

abbrev waits : List ℕ → ℕ → ℕ → ℕ
waits bs first i = get_or bs (place bs (first + i) + 6) 0

pub loop-here-init : goal.loop-here-init
loop-here-init c =
    let bs = c.args.self.tally.bytes.now in
    let w = c.walk-here-items.ensures in
    let g = c.into_iter-here-iterator.ensures.into_iter_gives in
    let fresh : c.into_iter-here-iterator.result.i ≡ 0 = cc (g, w.fresh) in
    (tt, tt, cc (g, w.bytes), cc (g, w.first), cc (g, w.count), rw fresh (table_start 384 (copies bs (c.args.self.tally.links + c.args.self.tally.starts + 4)) (waits bs (c.args.self.tally.links + c.args.self.tally.starts + 4)) 1))

pub loop-here-preserved : goal.loop-here-preserved
loop-here-preserved c =
    let s = c.loop-here in
    let it = s.here-iterator in
    let h = s.invariant in
    let e = c.in-Some.ensures.steps in
    let bs = c.args.self.tally.bytes.now in (
      tt,
      tt,
      cc (e.same, h.2),
      cc (e.from, h.3),
      cc (e.all, h.4),
      c.set_delay.ensures ∙ rw (h.5, e.next, c.copy.ensures, c.byte.ensures, past_head c.in-Some.here.at 3, e.bytes_are, e.place_is, it.place_is, h.2, h.3) (table_next 384 (copies bs (c.args.self.tally.links + c.args.self.tally.starts + 4)) (waits bs (c.args.self.tally.links + c.args.self.tally.starts + 4)) 1 it.i),
    )

pub returns : goal.returns
returns c = let t = c.args.self.tally in let h = c.loop-here.invariant in let n = c.in-None.ensures.steps in rw (← t.links_are, ← t.starts_are) (rw (n.0, h.4) at h.5)
