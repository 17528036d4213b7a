-- The one before stands beside what is left; each turn compares it with the first of that. Assumes nothing.
use mathlib.Core.Path.{◌≡◌}
use lib.Dec.{eqb}
use lib.ListN.{take, drop}
use mathlib.Core.Bool.{◌&&◌}
use Rattle.lists.specs.Lists.{rising}
use Rattle.lists.proofs.Walks.{rises_after}
use Rattle.host.specs.State.{earlier}
use Rattle.host.proofs.starts.starts_rise.Given as goal

abbrev pub invariant-loop-i : goal.invariant-loop-i
invariant-loop-i l = (l.ok && rises_after earlier (eqb l.i 0) l.previous (drop l.i (take l.started l.fn.starts))) ≡ rising earlier (take l.started l.fn.starts)
