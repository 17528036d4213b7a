-- Sets of pairs: where two agree, and the masks, whose bits are computed one by one. Assumes nothing.
use mathlib.Core.Path.{◌≡◌, refl, sym, ap, ap₂, ◌∙◌}
use mathlib.Core.Bool.{Bool, true, false, ◌&&◌, ◌||◌, and_comm}
use Prim.Native.Nat.{ℕ, ◌-◌, ◌*◌, ◌/◌, ◌%◌, ◌^◌, ◌≤◌, ◌<◌}
use native.Mathlib.Omega.{arith}
use borrow.Author.Tests.{eqb-true, eqb-false, eq-eqb, ne_eqb, leb-true}
use lib.Dec.{eqb, leb, ltb}
use lib.Bits.{bit_and, bit_or}
use Rattle.lists.specs.Searches.{each}
use Rattle.lists.proofs.Bools.{and_left_lem, and_right}
use Rattle.lists.proofs.SearchLaws.{each_true, each_of}
use Rattle.network.specs.Network.{has}
use Rattle.network.specs.Inside.{pair, Pairs, paired, agree, alike}
use Rattle.network.proofs.Bits.{has_or, has_top, same_bits}

agree_same : (s t : Bool) → agree s t ≡ true → s ≡ t
unfolding agree
agree_same true t e = sym e
agree_same false true e = e
agree_same false false e = refl

same_agree : (s : Bool) → agree s s ≡ true
unfolding agree
same_agree true = refl
same_agree false = refl

module _ (s t : ℕ → ℕ → Bool) where
  pub alike_at : alike s t ≡ true → (a b : ℕ) → a < 8 → b < 8 → s a b ≡ t a b
  unfolding alike
  alike_at e a b ha hb = agree_same (s a b) (t a b) (each_true (λ y. agree (s a y) (t a y)) 8 (each_true (λ x. each 8 (λ y. agree (s x y) (t x y))) 8 e a ha) b hb)

  pub at_alike : ((a b : ℕ) → a < 8 → b < 8 → s a b ≡ t a b) → alike s t ≡ true
  unfolding alike
  at_alike e = each_of _ 8 (λ a ha. each_of _ 8 (λ b hb. ap (λ (u : Bool). agree (s a b) u) (sym (e a b ha hb)) ∙ same_agree (s a b)))

-- numbers that have the same pairs are the same
pub pairs_same : (x y : ℕ) → x < 2 ^ 64 → y < 2 ^ 64 → alike (paired x) (paired y) ≡ true → x ≡ y
pairs_same x y hx hy e =
    same_bits 64 x y hx hy
    (λ i h.
    let at : pair (i / 8) (i % 8) ≡ i = omega arith in
    ap (has x) (sym at) ∙ alike_at (paired x) (paired y) e (i / 8) (i % 8) (omega arith) (omega arith) ∙ ap (has y) at)

-- ---- one pair, and a link's two

-- two places are one where both hosts are
pub pair_same : (a b x y : ℕ) → b < 8 → y < 8 → eqb (pair a b) (pair x y) ≡ (eqb a x && eqb b y)
pair_same a b x y h l = go (eqb a x) refl (eqb b y) refl
  where
    go : (t : Bool) → eqb a x ≡ t → (u : Bool) → eqb b y ≡ u → eqb (pair a b) (pair x y) ≡ (t && u)
    go true e true q = let s = eqb-true a x e in let r = eqb-true b y q in eq-eqb (pair a b) (pair x y) (omega arith)
    go true e false q = let no = eqb-false b y q in ne_eqb (pair a b) (pair x y) (λ z. no (omega arith))
    go false e u q = let no = eqb-false a x e in ne_eqb (pair a b) (pair x y) (λ z. no (omega arith))

pub one_pair : (a b : ℕ) → a < 8 → b < 8 → Pairs ((1 * 2 ^ pair a b) % 2 ^ 64) (λ x y. eqb x a && eqb y b)
one_pair a b ha hb x y hx hy = has_top 64 (pair a b) (pair x y) (omega arith) ∙ pair_same x y a b hy hb

pub both_ways : (a b : ℕ) → a < 8 → b < 8 → Pairs (bit_or ((1 * 2 ^ pair a b) % 2 ^ 64) ((1 * 2 ^ pair b a) % 2 ^ 64)) (λ x y. eqb x a && eqb y b || eqb y a && eqb x b)
both_ways a b ha hb x y hx hy =
    has_or _ _ (pair x y) ∙ ap₂ (λ (s t : Bool). s || t) (one_pair a b ha hb x y hx hy) (one_pair b a hb ha x y hx hy ∙ and_comm (eqb x b) (eqb y a))

-- ---- the masks

with_host : ℕ → ℕ
with_host h = bit_or ((255 * 2 ^ (8 * h)) % 2 ^ 64) ((72340172838076673 * 2 ^ h) % 2 ^ 64)

with_table : each 8 (λ h. alike (λ a b. has (with_host h) (pair a b)) (λ a b. eqb a h || eqb b h)) ≡ true
unfolding each alike agree has with_host
with_table = refl

pub with_host_lem : (h : ℕ) → h < 8 → Pairs (bit_or ((255 * 2 ^ (8 * h)) % 2 ^ 64) ((72340172838076673 * 2 ^ h) % 2 ^ 64)) (λ a b. eqb a h || eqb b h)
unfolding with_host
with_host_lem h l = alike_at _ _ (each_true (λ h. alike (λ a b. has (with_host h) (pair a b)) (λ a b. eqb a h || eqb b h)) 8 with_table h l)

first_hosts : ℕ → ℕ
first_hosts n = bit_and (18446744073709551615 / 2 ^ (64 - 8 * n)) (72340172838076673 * ((1 * 2 ^ n) % 2 ^ 64 - 1))

first_table : each 9 (λ n. alike (λ a b. has (first_hosts n) (pair a b)) (λ a b. ltb a n && ltb b n)) ≡ true
unfolding each alike agree has first_hosts
first_table = refl

pub first_hosts_lem : (n : ℕ) → n < 9 → Pairs (bit_and (18446744073709551615 / 2 ^ (64 - 8 * n)) (72340172838076673 * ((1 * 2 ^ n) % 2 ^ 64 - 1))) (λ a b. ltb a n && ltb b n)
unfolding first_hosts
first_hosts_lem n l = alike_at _ _ (each_true (λ n. alike (λ a b. has (first_hosts n) (pair a b)) (λ a b. ltb a n && ltb b n)) 9 first_table n l)

-- and its product fits
least_top : each 9 (λ n. leb 1 ((1 * 2 ^ n) % 2 ^ 64) && leb ((1 * 2 ^ n) % 2 ^ 64) 256) ≡ true
unfolding each
least_top = refl

pub top_fits : (n : ℕ) → n < 9 → (1 ≤ (1 * 2 ^ n) % 2 ^ 64) × ((1 * 2 ^ n) % 2 ^ 64 ≤ 256)
top_fits n h =
    let t = each_true (λ n. leb 1 ((1 * 2 ^ n) % 2 ^ 64) && leb ((1 * 2 ^ n) % 2 ^ 64) 256) 9 least_top n h in
    (leb-true _ _ (and_left_lem _ (leb ((1 * 2 ^ n) % 2 ^ 64) 256) t), leb-true _ _ (and_right (leb 1 ((1 * 2 ^ n) % 2 ^ 64)) _ t))

itself_table : alike (λ a b. has 9241421688590303745 (pair a b)) eqb ≡ true
unfolding each alike agree has
itself_table = refl

pub itself : Pairs 9241421688590303745 eqb
itself = alike_at _ _ itself_table
