-- Each link of the set below l has its copy sent. Assumes nothing.
use mathlib.Core.Path.{◌≡◌}
use Prim.Native.Nat.{◌+◌, ◌≤◌}
use Rattle.engine.specs.Turns.{in_turn}
use Rattle.engine.specs.Run.{send_one}
use Rattle.engine.proofs.sending.send_all.Given as goal

abbrev pub invariant-loop-l : goal.invariant-loop-l
invariant-loop-l l = (l.post ≡ in_turn l.l (send_one l.s l.t l.k l.p l.links) l.initial.post) × (l.post.copies ≤ l.initial.post.copies + l.l)
