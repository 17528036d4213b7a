-- A host to which nothing is due only takes the reading as its last. Assumes nothing.
use mathlib.Core.Path.{◌≡◌, refl, sym, ap, ◌∙◌}
use mathlib.Core.Bool.{true, not, ◌||◌}
use mathlib.Core.List.{List, [], ◌∷◌, ◌++◌, map, append-nil}
use Prim.Native.Nat.{ℕ}
use native.Mathlib.Omega.{arith}
use borrow.Author.Tests.{eqb-true}
use lib.Dec.{eqb}
use lib.ListN.{length, get_or}
use Rattle.clock.specs.declared.Reading.{Reading}
use Rattle.host.specs.State.{no_held}
use Rattle.host.specs.Tick.{due, due_of, tick_refusal, after_tick, tick_host}
use Rattle.host.specs.declared.Held.{Held}
use Rattle.host.specs.declared.Host.{Host}
use Rattle.host.proofs.Facts.{tick_is}
use Rattle.host.proofs.Fronts.{first_due, idle}
use Rattle.host.proofs.Outcomes.{accepted}
use Rattle.engine.specs.declared.Log.{Log}
use Rattle.engine.specs.declared.Station.{Station}
use Rattle.engine.specs.Parts.{list_of, log_of}
use Rattle.engine.specs.Run.{delivered, delivery, ticked}
use Rattle.engine.specs.Inside.{later_at, Room}

empty : {A : Type 0} (l : List A) → length l ≡ 0 → l ≡ []
empty [] e = refl
empty (x ∷ l) e = let f : ⊥ = omega arith in absurd f

pub idle_ticked : (p : Station) (u : Reading) → Room p u
    → (eqb p.host.held 0 || not (due p.host.bound u.0 (get_or p.host.history 0 no_held))) ≡ true → later_at u p ≡ ticked u p
idle_ticked p u r e =
    let h : Host = p.host in
    let refusal : ℕ = tick_refusal h u.0 512 in
    let sound = (tick_is h u.0 512 r.taken).sound in
    let none : length (due_of h u.0) ≡ 0 = eqb-true _ _ (sym (first_due h u.0 r.sized.history sound) ∙ e) in
    let host : tick_host h u 512 ≡ (later_at u p).host = accepted refusal (after_tick h u) h r.taken ∙ idle h u r.sized.history sound none in
    let nothing : delivered h u ≡ [] = accepted refusal (due_of h u.0) [] r.taken ∙ empty (due_of h u.0) none in
    let log : p.log ≡ log_of (list_of p.log ++ map (delivery u) (delivered h u)) =
    r.log ∙ ap log_of (sym (append-nil (list_of p.log))) ∙ ap (λ (l : List Held). log_of (list_of p.log ++ map (delivery u) l)) (sym nothing) in
    ap (λ (g : Host). record { host = g; log = p.log }) (sym host) ∙ ap (λ (l : Log). record { host = tick_host h u 512; log = l }) log
