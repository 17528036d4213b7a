-- Each place of the history holds what the order there becomes. Assumes nothing.
use borrow.Author.Rules.{rules}
use native.Mathlib.Omega.{arith}
use mathlib.Core.Path.{◌≡◌, ap, ap₂, ◌∙◌}
use mathlib.Core.List.{List, map}
use Prim.Native.Nat.{ℕ}
use lib.ListN.{length, get_or, set, take}
use Rattle.lists.specs.Lists.{pad}
use Rattle.host.specs.State.{no_held}
use Rattle.host.specs.declared.Held.{Held}
use Rattle.service.specs.declared.HeldMemory.{HeldMemory}
use Rattle.service.specs.Memory.{held_memory}
use Rattle.service.specs.Inside.{none}
use Rattle.service.proofs.Converts.{fill_next, fill_all}
use Rattle.service.proofs.memory.HostMemoryFromHost.from.Goals as goal

pub loop-i-preserved : goal.loop-i-preserved
loop-i-preserved c =
    let s = c.loop-i in
    let l : List Held = c.args.host.history in
    let long : length l ≡ 32 = search rules in
    ap (λ (t : List HeldMemory). set t s.i c.from.result) s.invariant
    ∙ ap (λ (x : HeldMemory). set (pad 32 none (map held_memory (take s.i l))) s.i x) c.from.ensures
    ∙ fill_next held_memory 32 none l no_held s.i (omega arith) (omega arith)

pub returns : goal.returns
returns c =
    let s = c.args.host in
    let l : List Held = s.history in
    let long : length l ≡ 32 = search rules in
    ap₂ (λ (own : ℕ) (places : List HeldMemory).
    record { bound = s.bound; last = s.last; own = own; started = s.started; held = s.held; starts = s.starts; history = places; plan = s.plan; rules = s.rules; d = s.d })
    c.from-2.ensures (c.loop-i.invariant ∙ fill_all held_memory 32 none l c.loop-i.i (omega arith) long)
