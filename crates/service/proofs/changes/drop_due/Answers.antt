-- The others move to the front, and all behind them is set to none. Assumes nothing.
use borrow.Author.Rules.{rules}
use native.Mathlib.Omega.{arith}
use mathlib.Core.Path.{◌≡◌, ap, ◌∙◌}
use Prim.Native.Nat.{ℕ, ◌-◌}
use mathlib.Core.List.{List}
use lib.ListN.{length, length-drop, drop, replicate}
use lib.Seq.{length-take-le}
use Rattle.service.specs.declared.HeldMemory.{HeldMemory}
use Rattle.service.specs.Inside.{memory_with, none}
use Rattle.service.proofs.Shifts.{left_behind}
use Rattle.service.proofs.changes.drop_due.Goals as goal

pub returns : goal.returns
returns c =
    let f = c.args.memory.now in
    let k : ℕ = c.args.count in
    let w : ℕ = f.held - k in
    let long : length f.history ≡ 32 = search rules in
    let moved : List HeldMemory = c.copy_within.new.self in
    let still : length moved ≡ 32 = c.copy_within.ensures.len ∙ long in
    let room = length-take-le (32 - w) (drop w moved) (rw (length-drop w moved) (omega arith)) in
    let behind : c.fill.new.self ≡ replicate (32 - w) none = c.fill.ensures.after (λ y e. e) ∙ ap (λ (n : ℕ). replicate n none) room in
    ap (memory_with f f.last f.started f.starts w) (left_behind f.history none 32 k f.held long c.requires.0 c.requires.1 _ _ c.copy_within.ensures.after behind)
