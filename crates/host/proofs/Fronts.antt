-- Held orders come by rising stamp: where the first is not due, none is, and a tick leaves all. Assumes nothing.
use mathlib.Core.Path.{◌≡◌, refl, sym, ap, ◌∙◌}
use mathlib.Core.Logic.{inl, inr}
use mathlib.Core.Bool.{Bool, true, false, not, ◌||◌}
use mathlib.Core.List.{List, [], ◌∷◌}
use Prim.Native.Nat.{ℕ, zero, suc, ◌+◌, ◌≤◌}
use native.Mathlib.Omega.{arith}
use borrow.Author.Tests.{leb-true, le-leb, ne_eqb}
use lib.Dec.{eqb}
use lib.ListN.{length, take, get_or}
use lib.Seq.{length-take-le}
use Rattle.lists.specs.Lists.{rising, keep, pad}
use Rattle.lists.proofs.Places.{padded}
use Rattle.lists.proofs.Rises.{none_pass}
use Rattle.clock.specs.declared.Reading.{Reading}
use Rattle.host.specs.declared.Held.{Held}
use Rattle.host.specs.declared.Host.{Host}
use Rattle.host.specs.State.{no_held, is_no_held, held_of, before, with}
use Rattle.host.specs.Tick.{due, due_of, waiting_of, written, after_tick}
use Rattle.host.proofs.Blanks.{only_held}
use Rattle.host.proofs.Facts.{SoundIs}
use Rattle.host.proofs.Names.{Goes, before_is}

-- ---- a list that rises, and a test that an element passes with each later one

module _ {A : Type 0} (r : A → A → Bool) (p : A → Bool) (with-later : (x y : A) → r x y ≡ true → p y ≡ true → p x ≡ true) where
  pub first_tells : (d : A) (n : ℕ) (l : List A) → n ≤ length l → rising r (take n l) ≡ true → (eqb n 0 || not (p (get_or l 0 d))) ≡ eqb (length (keep p (take n l))) 0
  first_tells d zero l fits up = refl
  first_tells d (suc n) [] fits up = let f : ⊥ = omega arith in absurd f
  first_tells d (suc n) (x ∷ l) fits up = ap (λ (t : Bool). t || not (p x)) (ne_eqb (suc n) 0 (λ q. omega arith)) ∙ go (p x) refl
    where
      go : (t : Bool) → p x ≡ t → not (p x) ≡ eqb (length (keep p (x ∷ take n l))) 0
      go true e = rw e (sym (ne_eqb (suc (length (keep p (take n l)))) 0 (λ q. omega arith)))
      go false e = ap not e ∙ sym (ap (λ (t : List A). eqb (length t) 0) (none_pass r p with-later x (take n l) up e).0)

  pub all_wait : (l : List A) → rising r l ≡ true → length (keep p l) ≡ 0 → keep (λ (y : A). not (p y)) l ≡ l
  all_wait [] up e = refl
  all_wait (x ∷ l) up e = go (p x) refl
    where
      go : (t : Bool) → p x ≡ t → keep (λ (y : A). not (p y)) (x ∷ l) ≡ x ∷ l
      go true q = let some : suc (length (keep p l)) ≡ 0 = rw q at e in let f : ⊥ = omega arith in absurd f
      go false q = (none_pass r p with-later x l up q).1

-- ---- the orders of a host

pub due_before : (Δ u : ℕ) (x y : Held) → before x y ≡ true → due Δ u y ≡ true → due Δ u x ≡ true
due_before Δ u x y b e = le-leb _ _ (go (before_is x y b))
  where
    late : y.stamp.0 + Δ ≤ u
    late = leb-true _ _ e

    go : Goes x y → x.stamp.0 + Δ ≤ u
    go (inl l) = omega (arith, late)
    go (inr s) = let same : x.stamp.0 ≡ y.stamp.0 = s.0 in omega (arith, late)

pub first_due : (h : Host) (u : ℕ) → length h.history ≡ 32 → SoundIs h
    → (eqb h.held 0 || not (due h.bound u (get_or h.history 0 no_held))) ≡ eqb (length (due_of h u)) 0
first_due h u n s = let fits = s.held in first_tells before (due h.bound u) (due_before h.bound u) no_held h.held h.history (omega arith) s.rise

pub idle : (h : Host) (u : Reading) → length h.history ≡ 32 → SoundIs h → length (due_of h u.0) ≡ 0
    → after_tick h u ≡ with h u h.starts h.started h.history h.held
idle h u n s e =
    let fits = s.held in
    let wait : waiting_of h u.0 ≡ held_of h = all_wait before (due h.bound u.0) (due_before h.bound u.0) (held_of h) s.rise e in
    let whole : pad 32 no_held (held_of h) ≡ h.history = sym (padded is_no_held no_held only_held 32 h.history h.held n fits s.history_unused) in
    let long : length (held_of h) ≡ h.held = length-take-le h.held h.history (omega arith) in
    ap (λ (l : List Held). with h u h.starts h.started (pad 32 no_held l) (length l)) wait
    ∙ ap (λ (l : List Held). with h u h.starts h.started l (length (held_of h))) whole
    ∙ ap (λ (k : ℕ). with h u h.starts h.started h.history k) long

pub none_written : (l : List Held) (out : List ℕ) → length l ≡ 0 → written l out ≡ out
none_written [] out e = refl
none_written (x ∷ l) out e = let f : ⊥ = omega arith in absurd f
