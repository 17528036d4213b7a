-- A list in the first places of an array, the others blank: read back, one more at the end, one put in among them. Assumes nothing.
use mathlib.Core.Path.{◌≡◌, refl, sym, ap, ◌∙◌}
use mathlib.Core.Bool.{Bool, true, false, cond}
use mathlib.Core.List.{List, [], ◌∷◌, ◌++◌, append_assoc}
use Prim.Native.Nat.{ℕ, zero, suc, ◌+◌, ◌-◌, ◌≤◌, ◌<◌}
use native.Mathlib.Numerals.{add-one}
use native.Mathlib.Omega.{arith}
use lib.ListN.{length, take, drop, get_or, set, replicate, length-append, length-drop, length-set, take-append-drop, replicate-append-replicate, length-replicate}
use lib.Seq.{length-take-le, take-append-le, drop-append-le, drop-append-add, take-append-add, take_at, set_at, set_split, set-append_left}
use Rattle.lists.specs.Lists.{all, insert, pad}
use Rattle.lists.proofs.Bools.{and_left_lem, and_right}

-- one more at the end of the list
pub pad_more : {A : Type 0} (N : ℕ) (z x : A) (l : List A) → length l < N → set (pad N z l) (length l) x ≡ pad N z (l ++ (x ∷ []))
pad_more N z x l h =
    let k : ℕ = N - (length l + 1) in
    let e : N - length l ≡ suc k = omega arith in
    let f : N - length (l ++ (x ∷ [])) ≡ k = ap (λ (n : ℕ). N - n) (length-append l (x ∷ [])) in
    ap (λ (n : ℕ). set (l ++ replicate n z) (length l) x) e
    ∙ set_at l z (replicate k z) x (length l) refl
    ∙ sym (append_assoc l (x ∷ []) (replicate k z))
    ∙ ap (λ (n : ℕ). (l ++ (x ∷ [])) ++ replicate n z) (sym f)

module _ {A : Type 0} (p : A → Bool) (z : A) (only : (x : A) → p x ≡ true → x ≡ z) where
  -- places that all pass the test of a blank are blanks
  pub blanks : (l : List A) → all p l ≡ true → l ≡ replicate (length l) z
  blanks [] e = refl
  blanks (x ∷ l) e = cc (only x (and_left_lem (p x) (all p l) e), blanks l (and_right (p x) (all p l) e))

  -- an array of N places of which those from n on are blank is its first n, padded
  pub padded : (N : ℕ) (l : List A) (n : ℕ) → length l ≡ N → n ≤ N → all p (drop n l) ≡ true → l ≡ pad N z (take n l)
  padded N l n e h b =
      let k : length (drop n l) ≡ N - length (take n l) = rw (length-drop n l, length-take-le n l (omega arith)) (omega arith) in
      sym (take-append-drop n l) ∙ ap (λ (t : List A). take n l ++ t) (blanks (drop n l) b ∙ ap (λ (m : ℕ). replicate m z) k)

take_replicate : {A : Type 0} (z : A) (m k : ℕ) → m ≤ k → take m (replicate k z) ≡ replicate m z
take_replicate z zero k h = refl
take_replicate z (suc m) zero h = let f : ⊥ = omega arith in absurd f
take_replicate {A} z (suc m) (suc k) h = ap (λ (l : List A). z ∷ l) (take_replicate z m k (omega arith))

-- how long a list is whose part from at up to k is x now
pub splice_long : {A : Type 0} (l x : List A) (at k : ℕ) → at ≤ length l → length (take at l ++ (x ++ drop k l)) ≡ at + (length x + (length l - k))
splice_long l x at k h = rw (length-append (take at l) (x ++ drop k l), length-append x (drop k l), length-take-le at l h, length-drop k l)

-- one put in at k among the first n, and what follows moved up by one place
pub put_pad : {A : Type 0} (N : ℕ) (z x : A) (l : List A) (k : ℕ) → length l < N → k ≤ length l
    → take N (take k (pad N z l) ++ (x ∷ drop k (pad N z l))) ≡ pad N z (take k l ++ (x ∷ drop k l))
put_pad {A} N z x l k h kn =
    let R : List A = replicate (N - length l) z in
    let ins : List A = take k l ++ (x ∷ drop k l) in
    let li : length ins ≡ length l + 1 = let long = splice_long l (x ∷ []) k k kn in omega arith in
    let whole : take k (l ++ R) ++ (x ∷ drop k (l ++ R)) ≡ ins ++ R =
    ap (λ (t : List A). t ++ (x ∷ drop k (l ++ R))) (take-append-le k l R kn)
    ∙ ap (λ (t : List A). take k l ++ (x ∷ t)) (drop-append-le k l R kn)
    ∙ sym (append_assoc (take k l) (x ∷ drop k l) R) in
    let nn : N ≡ length ins + (N - length ins) = omega arith in
    ap (take N) whole
    ∙ ap (λ (m : ℕ). take m (ins ++ R)) nn
    ∙ take-append-add ins R (N - length ins)
    ∙ ap (λ (t : List A). ins ++ t) (take_replicate z (N - length ins) (N - length l) (omega arith))

pub length_insert : {A : Type 0} (r : A → A → Bool) (x : A) (l : List A) → length (insert r x l) ≡ length l + 1
length_insert r x [] = refl
length_insert {A} r x (y ∷ l) = go (r x y) (length_insert r x l)
  where
    go : (t : Bool) → length (insert r x l) ≡ length l + 1 → length (cond t (x ∷ y ∷ l) (y ∷ insert r x l)) ≡ length (y ∷ l) + 1
    go true e = sym (add-one (length (y ∷ l)))
    go false e = omega arith

-- ---- the places of a padded list: the list itself, then blanks

pub take_pad : {A : Type 0} (N : ℕ) (z : A) (l : List A) → take (length l) (pad N z l) ≡ l
take_pad N z l = take_at l (replicate (N - length l) z) (length l) refl

pub drop_pad : {A : Type 0} (p : A → Bool) (z : A) (N : ℕ) (l : List A) (k : ℕ) → p z ≡ true → length l ≤ k → all p (drop k (pad N z l)) ≡ true
drop_pad {A} p z N l k e h =
    let more : k ≡ length l + (k - length l) = omega arith in
    ap (λ (i : ℕ). all p (drop i (pad N z l))) more
    ∙ ap (all p) (drop-append-add l (replicate (N - length l) z) (k - length l))
    ∙ none (N - length l) (k - length l)
  where
    none : (i j : ℕ) → all p (drop j (replicate i z)) ≡ true
    none zero zero = refl
    none zero (suc j) = refl
    none (suc i) zero = rw (e, none i zero)
    none (suc i) (suc j) = none i j

pub get_or_pad : {A : Type 0} (N : ℕ) (z : A) (l : List A) (i : ℕ) → get_or (pad N z l) i z ≡ get_or l i z
get_or_pad {A} N z l i = go (N - length l) l i
  where
    blank : (k i : ℕ) → get_or (replicate k z) i z ≡ z
    blank zero i = refl
    blank (suc k) zero = refl
    blank (suc k) (suc i) = blank k i

    go : (k : ℕ) (l : List A) (i : ℕ) → get_or (l ++ replicate k z) i z ≡ get_or l i z
    go k [] i = blank k i
    go k (x ∷ l) zero = refl
    go k (x ∷ l) (suc i) = go k l i

pub length_pad : {A : Type 0} (N : ℕ) (z : A) (l : List A) → length l ≤ N → length (pad N z l) ≡ N
length_pad N z l h = length-append l (replicate (N - length l) z) ∙ ap (λ (k : ℕ). length l + k) (length-replicate (N - length l) z) ∙ (let whole : length l + (N - length l) ≡ N = omega arith in whole)

-- an array with its place k taken out, and with that place set
pub cut_pad : {A : Type 0} (N : ℕ) (z : A) (l : List A) (k : ℕ) → length l ≤ N → k < length l
    → take k (pad N z l) ++ drop (k + 1) (pad N z l) ++ (z ∷ []) ≡ pad N z (take k l ++ drop (k + 1) l)
cut_pad {A} N z l k h kn =
    let R : List A = replicate (N - length l) z in
    let cut : List A = take k l ++ drop (k + 1) l in
    let lc : length cut ≡ length l - 1 = let long = splice_long l [] k (k + 1) (omega arith) in omega arith in
    let more : N - length cut ≡ (N - length l) + 1 = omega arith in
    ap (λ (t : List A). t ++ drop (k + 1) (l ++ R) ++ (z ∷ [])) (take-append-le k l R (omega arith))
    ∙ ap (λ (t : List A). take k l ++ t ++ (z ∷ [])) (drop-append-le (k + 1) l R (omega arith))
    ∙ ap (λ (t : List A). t ++ (z ∷ [])) (sym (append_assoc (take k l) (drop (k + 1) l) R))
    ∙ append_assoc cut R (z ∷ [])
    ∙ ap (λ (t : List A). cut ++ t) (replicate-append-replicate (N - length l) 1 z ∙ ap (λ (m : ℕ). replicate m z) (sym more))

pub set_pad : {A : Type 0} (N : ℕ) (z x : A) (l : List A) (k : ℕ) → k < length l → set (pad N z l) k x ≡ pad N z (take k l ++ (x ∷ drop (k + 1) l))
set_pad {A} N z x l k h =
    let new : List A = take k l ++ (x ∷ drop (k + 1) l) in
    let same : set l k x ≡ new = rw (add-one k) (set_split l k x h) in
    let ln : length new ≡ length l = ap length (sym same) ∙ length-set l k x in
    set-append_left l (replicate (N - length l) z) k x h
    ∙ ap (λ (t : List A). t ++ replicate (N - length l) z) same
    ∙ ap (λ (m : ℕ). new ++ replicate (N - m) z) (sym ln)
