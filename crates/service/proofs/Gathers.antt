-- A loop that gathers the bits of every place from n on into one number, which is 0 just where each place passes a test. Assumes nothing.
use mathlib.Core.Path.{◌≡◌, sym, ap, ◌∙◌, subst}
use mathlib.Core.Bool.{Bool, ◌&&◌, and_assoc}
use mathlib.Core.List.{List}
use Prim.Native.Nat.{ℕ, ◌+◌, ◌<◌}
use lib.Dec.{eqb}
use lib.ListN.{length, get_or}
use lib.Bits.{bit_or}
use Rattle.lists.proofs.Walks.{Tested, tested_turn}
use Rattle.lists.proofs.Zeros.{or_zero}
use Rattle.service.specs.declared.HeldMemory.{HeldMemory}
use Rattle.service.specs.Memory.{zeros}
use Rattle.service.specs.Inside.{unused_in, none}
use Rattle.service.specs.Bits.{from_blank}

-- the place i is two numbers, a and b, and passes where both are 0
gather_turn : {A : Type 0} {p : A → Bool} {l : List A} {n i : ℕ} (z : A) (bits a b : ℕ) → Tested p l n (eqb bits 0) i → i < length l → (eqb a 0 && eqb b 0) ≡ p (get_or l i z)
    → Tested p l n (eqb (bit_or (bit_or bits a) b) 0) (i + 1)
gather_turn {p = p} {l = l} {n = n} {i = i} z bits a b s h e =
    let both = or_zero (bit_or bits a) b ∙ ap (λ (t : Bool). t && eqb b 0) (or_zero bits a) ∙ and_assoc (eqb bits 0) (eqb a 0) (eqb b 0) in
    subst (λ (t : Bool). Tested p l n t (i + 1)) (sym both) (tested_turn z s h e)

-- ---- the places of a history: the stamp, and the other bytes, word, as one number

pub place_turn : {l : List HeldMemory} {n i : ℕ} (bits word : ℕ) → Tested unused_in l n (eqb bits 0) i → i < length l
    → eqb word 0 ≡ (eqb (get_or l i none).source 0 && zeros (get_or l i none).kind (get_or l i none).image (get_or l i none).share)
    → Tested unused_in l n (eqb (bit_or (bit_or bits (get_or l i none).stamp.0) word) 0) (i + 1)
place_turn {l} {n} {i} bits word s h w =
    let e : HeldMemory = get_or l i none in
    let stamp : Bool = eqb e.stamp.0 0 in
    gather_turn none bits e.stamp.0 word s h
    (ap (λ (t : Bool). stamp && t) w
    ∙ sym (and_assoc stamp (eqb e.source 0) (zeros e.kind e.image e.share))
    ∙ ap (λ (t : Bool). stamp && eqb e.source 0 && t) (sym (from_blank e.kind e.image e.share)))
