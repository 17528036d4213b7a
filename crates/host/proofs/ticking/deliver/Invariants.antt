-- Of those looked at, the due ones are written and the others are kept, each behind those before it. Assumes nothing.
use mathlib.Core.Path.{◌≡◌}
use Prim.Native.Nat.{◌+◌, ◌*◌}
use mathlib.Core.Bool.{not}
use mathlib.Core.List.{◌++◌}
use lib.ListN.{length, take, drop}
use Rattle.host.specs.declared.Held.{Held}
use Rattle.lists.specs.Lists.{keep, pad}
use Rattle.host.specs.State.{no_held}
use Rattle.host.specs.Entries.{entries_of}
use Rattle.host.specs.Tick.{due}
use Rattle.host.proofs.ticking.deliver.Given as goal

abbrev pub invariant-loop-e : goal.invariant-loop-e
invariant-loop-e l = (l.delivered ≡ length (keep (due l.bound l.u.0) (take l.e-index l.history)))
    × (l.waiting ≡ length (keep (λ (e : Held). not (due l.bound l.u.0 e)) (take l.e-index l.history)))
    × (l.delivered + l.waiting ≡ l.e-index)
    × (l.rest ≡ pad 32 no_held (keep (λ (e : Held). not (due l.bound l.u.0 e)) (take l.e-index l.history)))
    × (length l.out ≡ length l.initial.out)
    × (l.out ≡ entries_of (keep (due l.bound l.u.0) (take l.e-index l.history)) ++ drop (16 * l.delivered) l.initial.out)
