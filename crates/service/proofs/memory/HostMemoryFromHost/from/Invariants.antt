-- The history is filled place by place. Assumes nothing.
use mathlib.Core.Path.{◌≡◌}
use mathlib.Core.List.{map}
use lib.ListN.{take}
use Rattle.lists.specs.Lists.{pad}
use Rattle.service.specs.Memory.{held_memory}
use Rattle.service.specs.Inside.{none}
use Rattle.service.proofs.memory.HostMemoryFromHost.from.Given as goal

abbrev pub invariant-loop-i : goal.invariant-loop-i
invariant-loop-i l = l.history ≡ pad 32 none (map held_memory (take l.i l.fn.host.history))
