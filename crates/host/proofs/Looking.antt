-- A turn of the loop that looks through a list for a name. Assumes nothing.
use mathlib.Core.Path.{◌≡◌, refl}
use mathlib.Core.Bool.{Bool, true, false, not, cond, ◌&&◌, ◌||◌, or_assoc, or-true, or-false}
use mathlib.Core.List.{List, ◌∷◌}
use Prim.Native.Nat.{ℕ, ◌+◌, ◌≤◌, ◌<◌}
use native.Mathlib.Omega.{arith}
use lib.ListN.{length, get_or}
use Rattle.lists.specs.Lists.{any}
use Rattle.lists.proofs.Loops.{first_next}
use Rattle.lists.proofs.Looks.{Looked}

any_turn : {A : Type 0} {left rest : List A} {x : A} {t : Bool} (p : A → Bool) (ok b : Bool) → left ≡ x ∷ rest → (ok || any p left) ≡ t → b ≡ p x → ((ok || b) || any p rest) ≡ t
any_turn {rest = rest} {x = x} p ok b s inv e = rw (e, or_assoc ok (p x) (any p rest)) (rw s at inv)

module _ {A : Type 0} {has alike : A → Bool} {l : List A} {n : ℕ} {same other named : Bool} {i : ℕ} (z : A) (s : Looked has alike l n same other named i) (long : n ≤ length l) (h : i < n) where
  -- t and u are what the tests of the place i found
  look_turn : {t u : Bool} → t ≡ has (get_or l i z) → u ≡ alike (get_or l i z) → Looked has alike l n (same || (t && u)) (other || (t && not u)) (named || t) (i + 1)
  look_turn {t} {u} e f =
      let next = first_next l n long z i h in
      record {
        inside = omega arith;
        sames = any_turn (λ (e : A). has e && alike e) same (t && u) next s.sames (rw (e, f));
        others = any_turn (λ (e : A). has e && not (alike e)) other (t && not u) next s.others (rw (e, f));
        names = any_turn has named t next s.names e;
      }

  -- a turn that writes only what it finds
  pub look_found : (u : Bool) → true ≡ has (get_or l i z) → u ≡ alike (get_or l i z) → Looked has alike l n (cond u true same) (cond u other true) true (i + 1)
  look_found true e f = rw (or-true same, or-false other, or-true named) at (look_turn e f)
  look_found false e f = rw (or-false same, or-true other, or-true named) at (look_turn e f)

  pub look_passed : false ≡ has (get_or l i z) → Looked has alike l n same other named (i + 1)
  look_passed e = rw (or-false same, or-false other, or-false named) at (look_turn e refl)
