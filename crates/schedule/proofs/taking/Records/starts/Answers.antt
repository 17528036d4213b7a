-- The first places hold what the walk gave. Assumes nothing.
use native.Mathlib.Omega.{arith}
use mathlib.Core.Path.{◌≡◌}
use Prim.Native.Nat.{◌+◌}
use Rattle.lists.proofs.Listing.{fill_start, fill_next}
use Rattle.schedule.specs.Shape.{value}
use Rattle.schedule.specs.Schedule.{start_at, no_start}
use Rattle.schedule.proofs.taking.Records.starts.Goals as goal

pub loop-i-init : goal.loop-i-init
loop-i-init c =
    let bs = c.args.self.tally.bytes.now in
    let w = c.walk-i-items.ensures in
    let g = c.into_iter-i-iterator.ensures.into_iter_gives in
    let fresh : c.into_iter-i-iterator.result.i ≡ 0 = cc (g, w.fresh) in
    (tt, tt, cc (g, w.bytes), cc (g, w.first), cc (g, w.count), rw fresh (fill_start 16 no_start (λ i. start_at bs (value bs (c.args.self.tally.links + 4 + i)))))

pub loop-i-preserved : goal.loop-i-preserved
loop-i-preserved c =
    let s = c.loop-i in
    let it = s.i-iterator in
    let h = s.invariant in
    let e = c.in-Some.ensures.steps in
    let bs = c.args.self.tally.bytes.now in (
      tt,
      tt,
      cc (e.same, h.2),
      cc (e.from, h.3),
      cc (e.all, h.4),
      rw (h.5, e.number_is, e.next, c.start_of.ensures, e.bytes_are, e.place_is, it.place_is, h.2, h.3) (fill_next 16 no_start (λ i. start_at bs (value bs (c.args.self.tally.links + 4 + i))) it.i (omega (arith, e.more, h.4, c.args.self.few_starts))),
    )
