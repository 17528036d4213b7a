-- What passes the test of an unused place is zero. Assumes nothing.
use mathlib.Core.Path.{◌≡◌, ap, ◌∙◌}
use mathlib.Core.Bool.{Bool, true, ◌&&◌}
use Prim.Native.Nat.{ℕ}
use borrow.Author.Tests.{eqb-true}
use lib.Dec.{eqb}
use Rattle.lists.proofs.Bools.{and_left_lem, and_right}
use Rattle.clock.specs.declared.Reading.{Reading}
use Rattle.orders.specs.Orders.{same_order}
use Rattle.orders.specs.declared.Order.{Order}
use Rattle.orders.specs.declared.Order.TheVariants.{Publish}
use Rattle.orders.proofs.Laws.{same_equal}
use Rattle.host.specs.declared.Held.{Held}
use Rattle.host.specs.State.{no_held, is_no_held}

abbrev reading : ℕ → Reading
reading k = record { 0 = k }

abbrev held : ℕ → ℕ → Order → Held
held t s o = record { stamp = reading t; source = s; order = o }

pub only_held : (e : Held) → is_no_held e ≡ true → e ≡ no_held
only_held e t =
    let st : Bool = eqb e.stamp.0 0 in
    let so : Bool = eqb e.source 0 in
    let or : Bool = same_order e.order (Publish 0 0) in
    let two : (st && so) ≡ true = and_left_lem (st && so) or t in
    ap (λ (k : ℕ). held k e.source e.order) (eqb-true e.stamp.0 0 (and_left_lem st so two))
    ∙ ap (λ (k : ℕ). held 0 k e.order) (eqb-true e.source 0 (and_right st so two))
    ∙ ap (λ (o : Order). held 0 0 o) (same_equal e.order (Publish 0 0) (and_right (st && so) or t))
