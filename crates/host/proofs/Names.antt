-- Names are in one order: of two names one comes first, and a name comes before no other of itself. Assumes nothing.
use mathlib.Core.Path.{◌≡◌, refl, sym, ap, ◌∙◌}
use mathlib.Core.Logic.{◌⊎◌, inl, inr}
use mathlib.Core.Bool.{Bool, true, false, ◌&&◌}
use Prim.Native.Nat.{ℕ, ◌≤◌, ◌<◌}
use native.Mathlib.Omega.{arith}
use borrow.Author.Tests.{ltb-true, ltb-false, eqb-true, eqb-false, lt-ltb, eq-eqb}
use lib.Dec.{ltb, eqb}
use Rattle.lists.proofs.Bools.{false_unless, and_left_lem, and_right, or_left_lem, or_right, or_cases, or_true_left, or_true_right}
use Rattle.orders.specs.Orders.{same_order}
use Rattle.orders.specs.declared.Order.{Order}
use Rattle.orders.proofs.Laws.{same_equal, equal_same}
use Rattle.host.specs.declared.Held.{Held}
use Rattle.host.specs.State.{same_name, before}
use Rattle.host.specs.Receive.{same_held}

-- ---- what the tests say

pub name_is : (x y : Held) → same_name x y ≡ true → (x.stamp.0 ≡ y.stamp.0) × (x.source ≡ y.source)
name_is x y e =
    let t : Bool = eqb x.stamp.0 y.stamp.0 in
    let s : Bool = eqb x.source y.source in
    (eqb-true _ _ (and_left_lem t s e), eqb-true _ _ (and_right t s e))

pub is_name : (x y : Held) → x.stamp.0 ≡ y.stamp.0 → x.source ≡ y.source → same_name x y ≡ true
is_name x y t s = simp (eq-eqb _ _ t, eq-eqb _ _ s)

-- x goes before y: by stamp, and at equal stamps by source
abbrev pub Goes : Held → Held → Type 0
Goes x y = (x.stamp.0 < y.stamp.0) ⊎ ((x.stamp.0 ≡ y.stamp.0) × (x.source < y.source))

pub before_is : (x y : Held) → before x y ≡ true → Goes x y
before_is x y e = go (or_cases (ltb x.stamp.0 y.stamp.0) (same && less) e)
  where
    same : Bool
    same = eqb x.stamp.0 y.stamp.0

    less : Bool
    less = ltb x.source y.source

    go : (ltb x.stamp.0 y.stamp.0 ≡ true) ⊎ ((same && less) ≡ true) → Goes x y
    go (inl q) = inl (ltb-true _ _ q)
    go (inr q) = inr (eqb-true _ _ (and_left_lem same less q), ltb-true _ _ (and_right same less q))

pub is_before : (x y : Held) → Goes x y → before x y ≡ true
is_before x y (inl l) = or_true_left (ltb x.stamp.0 y.stamp.0) (eqb x.stamp.0 y.stamp.0 && ltb x.source y.source) (lt-ltb _ _ l)
is_before x y (inr e) =
    or_true_right (ltb x.stamp.0 y.stamp.0) (eqb x.stamp.0 y.stamp.0 && ltb x.source y.source) (simp (eq-eqb _ _ e.0, lt-ltb _ _ e.1))

-- ---- the order

pub before_trans : (x y z : Held) → before x y ≡ true → before y z ≡ true → before x z ≡ true
before_trans x y z a b = is_before x z (go (before_is x y a) (before_is y z b))
  where
    go : Goes x y → Goes y z → Goes x z
    go (inl l) (inl m) = inl (omega arith)
    go (inl l) (inr m) = let same : y.stamp.0 ≡ z.stamp.0 = m.0 in inl (omega arith)
    go (inr l) (inl m) = let same : x.stamp.0 ≡ y.stamp.0 = l.0 in inl (omega arith)
    go (inr l) (inr m) = inr (l.0 ∙ m.0, let f : x.source < y.source = l.1 in let g : y.source < z.source = m.1 in omega arith)

pub before_other : (x y : Held) → same_name x y ≡ true → before x y ≡ false
before_other x y e = false_unless (before x y) (λ q. go (before_is x y q))
  where
    same : (x.stamp.0 ≡ y.stamp.0) × (x.source ≡ y.source)
    same = name_is x y e

    go : Goes x y → ⊥
    go (inl l) = let t : x.stamp.0 ≡ y.stamp.0 = same.0 in omega arith
    go (inr l) = let s : x.source ≡ y.source = same.1 in let f : x.source < y.source = l.1 in omega arith

pub name_swap : (x y : Held) → same_name x y ≡ true → same_name y x ≡ true
name_swap x y e = let n = name_is x y e in is_name y x (sym n.0) (sym n.1)

pub before_total : (x z : Held) → same_name x z ≡ false → before x z ≡ false → before z x ≡ true
before_total x z other notFirst = is_before z x (go (ltb z.stamp.0 x.stamp.0) refl (eqb x.stamp.0 z.stamp.0) refl (ltb z.source x.source) refl)
  where
    not_less : z.stamp.0 ≤ x.stamp.0
    not_less = ltb-false _ _ (or_left_lem (ltb x.stamp.0 z.stamp.0) (eqb x.stamp.0 z.stamp.0 && ltb x.source z.source) notFirst)

    go : (a : Bool) → ltb z.stamp.0 x.stamp.0 ≡ a → (b : Bool) → eqb x.stamp.0 z.stamp.0 ≡ b → (c : Bool) → ltb z.source x.source ≡ c → Goes z x
    go true ea b eb c ec = inl (ltb-true _ _ ea)
    go false ea false eb c ec =
        let least : x.stamp.0 ≤ z.stamp.0 = ltb-false _ _ ea in
        let same : x.stamp.0 ≡ z.stamp.0 = omega (arith, not_less) in
        absurd (eqb-false _ _ eb same)
    go false ea true eb true ec = inr (sym (eqb-true _ _ eb), ltb-true _ _ ec)
    go false ea true eb false ec =
        let differ : eqb x.source z.source ≡ false = rw eb at other in
        let not-below : ltb x.source z.source ≡ false = rw eb at (or_right (ltb x.stamp.0 z.stamp.0) (eqb x.stamp.0 z.stamp.0 && ltb x.source z.source) notFirst) in
        let one : x.source ≤ z.source = ltb-false _ _ ec in
        let two : z.source ≤ x.source = ltb-false _ _ not-below in
        let same : x.source ≡ z.source = omega arith in
        absurd (eqb-false _ _ differ same)

-- ---- one name and one order are one held order

abbrev held : ℕ → ℕ → Order → Held
held t s o = record { stamp = record { 0 = t }; source = s; order = o }

pub same_held_lem : (x y : Held) → same_held x y ≡ true → x ≡ y
same_held_lem x y e =
    let n = name_is x y (and_left_lem (same_name x y) (same_order x.order y.order) e) in
    ap (λ (t : ℕ). held t x.source x.order) n.0
    ∙ ap (λ (s : ℕ). held y.stamp.0 s x.order) n.1
    ∙ ap (λ (o : Order). held y.stamp.0 y.source o) (same_equal x.order y.order (and_right (same_name x y) (same_order x.order y.order) e))

pub held_same : (x : Held) → same_held x x ≡ true
held_same x = simp (is_name x x refl refl, equal_same x.order x.order refl)
