-- Logs compared by computing, and the orders that a list of calls tells a host to start. Assumes nothing.
use mathlib.Core.Path.{◌≡◌, refl, sym, ap, ◌∙◌}
use mathlib.Core.Logic.{inl, inr}
use mathlib.Core.Bool.{Bool, true, false, not, ◌&&◌, true≢false}
use mathlib.Core.List.{List, [], ◌∷◌}
use Prim.Native.Nat.{ℕ, ◌<◌}
use borrow.Author.Tests.{eq-eqb, not-true}
use lib.Dec.{eqb}
use Rattle.lists.specs.Lists.{any}
use Rattle.lists.specs.Searches.{each}
use Rattle.lists.proofs.SearchLaws.{each_true}
use Rattle.lists.proofs.Bools.{or_true_left, or_true_right}
use Rattle.orders.specs.Orders.{same_order}
use Rattle.orders.proofs.Laws.{equal_same}
use Rattle.orders.specs.declared.Order.{Order}
use Rattle.diffusion.specs.Hosts.{Carried, Call, start, receive, Host, IsStart, Unrefused}
use Rattle.diffusion.specs.Run.{Story, reading, calls_at, Some, Starts-at}

-- two entries of a log, and two logs, are the same
unfoldable pub same_entry : ℕ × Carried → ℕ × Carried → Bool
same_entry a b = eqb a.0 b.0 && (eqb a.1.stamp b.1.stamp && (eqb a.1.source b.1.source && same_order a.1.order b.1.order))

unfoldable pub same_log : List (ℕ × Carried) → List (ℕ × Carried) → Bool
same_log [] [] = true
same_log [] (b ∷ m) = false
same_log (a ∷ l) [] = false
same_log (a ∷ l) (b ∷ m) = same_entry a b && same_log l m

pub same_log_lem : (l : List (ℕ × Carried)) → same_log l l ≡ true
unfolding same_log same_entry
same_log_lem [] = refl
same_log_lem (a ∷ l) = rw (eq-eqb a.0 a.0 refl, eq-eqb a.1.stamp a.1.stamp refl, eq-eqb a.1.source a.1.source refl, equal_same a.1.order a.1.order refl, same_log_lem l)

-- a call tells a host to start this order
unfoldable pub tells : Order → Call → Bool
tells o (start p) = same_order o p
tells o (receive k c) = false

-- a start of x in a list of calls tells its order
started_told : (H : Host) (p U : ℕ) (x : Carried) (s : H.State) (cs : List Call) → Some H (λ s c. IsStart p U x c × Unrefused (H.call U s c)) U s cs → any (tells x.order) cs ≡ true
unfolding Some tells
started_told H p U x s [] h = absurd h
started_told H p U x s (start o ∷ cs) (inl h) = or_true_left (same_order x.order o) _ (equal_same x.order o (ap (λ (y : Carried). y.order) h.0))
started_told H p U x s (receive k c ∷ cs) (inl h) = absurd h.0
started_told H p U x s (start o ∷ cs) (inr h) = or_true_right (same_order x.order o) _ (started_told H p U x _ cs h)
started_told H p U x s (receive k c ∷ cs) (inr h) = started_told H p U x _ cs h

-- what is told to neither of two hosts at the first four ticks, neither starts
pub nobody : (H : Host) (R : Story) (x : Carried) → each 2 (λ p. each 4 (λ t. not (any (tells x.order) (calls_at R p t)))) ≡ true
    → (s : ℕ) × (u : ℕ) × (s < 2) × (u < 4) × Starts-at H R s u x → ⊥
nobody H R x e r =
    let told = started_told H r.0 (reading R r.0 r.1) x _ (calls_at R r.0 r.1) r.4 in
    let none = each_true _ 4 (each_true _ 2 e r.0 r.2) r.1 r.3 in
    true≢false (sym told ∙ not-true _ none)
