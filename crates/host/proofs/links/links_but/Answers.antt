-- The set of the links from i on, made from the last one down. Assumes nothing.
use borrow.Author.Rules.{rules}
use native.Mathlib.Omega.{arith}
use native.Mathlib.Nat.{le_of_eq}
use Prim.Native.Nat.{ℕ, ◌+◌, ◌-◌}
use Rattle.host.specs.OwnLinks.{placed, ends_but}
use Rattle.host.proofs.Sets.{placed_most, bit_is, bit_most, set_most, set_turn, set_none}
use mathlib.Core.Path.{sym, ap, ◌∙◌}
use mathlib.Core.Bool.{Bool, cond}
use Rattle.host.proofs.links.links_but.Goals as goal

pub loop-i-init : goal.loop-i-init
loop-i-init c =
    let a = c.args in
    let e = c.places-i.ensures in
    (le_of_eq e, set_none (ends_but a.plan a.own a.arrival) (placed a.plan) c.places-i.result (le_of_eq (sym e)))

pub loop-i-preserved : goal.loop-i-preserved
loop-i-preserved c =
    let a = c.args in
    let s = c.loop-i in
    (search rules, set_turn (ends_but a.plan a.own a.arrival) (placed a.plan) s.i s.set c.from.result (search rules) s.invariant.0 s.invariant.1 (c.from.ensures ∙ bit_is c.is_end_but.result ∙ ap (λ (t : Bool). cond t 1 0) c.is_end_but.ensures))

pub overflow_mul-set : goal.overflow_mul-set
overflow_mul-set c =
    let a = c.args in
    let s = c.loop-i in
    let most = placed_most a.plan in
    let small = set_most (placed a.plan - s.i) (λ (j : ℕ). ends_but a.plan a.own a.arrival (s.i + j)) (omega arith) in
    omega arith

pub overflow_add-set : goal.overflow_add-set
overflow_add-set c =
    let a = c.args in
    let s = c.loop-i in
    let most = placed_most a.plan in
    let small = set_most (placed a.plan - s.i) (λ (j : ℕ). ends_but a.plan a.own a.arrival (s.i + j)) (omega arith) in
    omega (arith, c.from.ensures ∙ bit_is c.is_end_but.result, bit_most c.is_end_but.result)
