-- The first i are behind what was there. Assumes nothing.
use mathlib.Core.Path.{◌≡◌}
use mathlib.Core.List.{◌++◌, map}
use lib.ListN.{take}
use Rattle.lists.specs.Lists.{pad}
use Rattle.engine.specs.Parts.{no_delivery, list_of}
use Rattle.engine.specs.Run.{delivery}
use Rattle.engine.proofs.ticking.more.Given as goal

abbrev pub invariant-loop-i : goal.invariant-loop-i
invariant-loop-i l = l.entries ≡ pad 16 no_delivery (list_of l.log ++ map (delivery l.u) (take l.i l.history))
