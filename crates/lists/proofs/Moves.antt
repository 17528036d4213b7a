-- Part of an array copied up or down by one place, and one element written to the place that this leaves. Assumes nothing.
use mathlib.Core.Path.{◌≡◌, sym, ap, ap₂, ◌∙◌}
use mathlib.Core.List.{List, [], ◌∷◌, ◌++◌, append_assoc, append-nil}
use Prim.Native.Nat.{ℕ, suc, ◌+◌, ◌-◌, ◌≤◌, ◌<◌}
use native.Mathlib.Omega.{arith}
use lib.ListN.{length, take, drop, get_or, set, length-append, length-drop, drop_of_length-le, take-append-drop}
use lib.Seq.{set_split, set_at, take-take, take-append-le, take_all, take_at, drop_at, drop-cons, paste, length-paste, length-take-le}

module _ {A : Type 0} (x : A) (l : List A) (k : ℕ) where
  -- m of them from k on, up
  module _ (m : ℕ) (fits : k + 1 + m ≤ length l) where
    up : List A
    up = take m (drop k l) ++ drop (k + 1 + m) l

    first : length (take (k + 1) l) ≡ k + 1
    first = length-take-le (k + 1) l (omega arith)

    long : k < length (paste l (k + 1) (drop k l) m)
    long =
        let rest = length-drop k l in
        let e = length-paste l (k + 1) (drop k l) m (omega arith) (omega arith) in
        omega arith

    split : paste l (k + 1) (drop k l) m ≡ take (k + 1) l ++ up
    unfolding up
    split = append_assoc (take (k + 1) l) (take m (drop k l)) (drop (k + 1 + m) l)

    pub opened : set (paste l (k + 1) (drop k l) m) k x ≡ take k l ++ (x ∷ (take m (drop k l) ++ drop (k + 1 + m) l))
    unfolding up
    opened =
        set_split (paste l (k + 1) (drop k l) m) k x long
        ∙ ap₂ (λ (s t : List A). s ++ (x ∷ t))
        (ap (take k) split ∙ take-append-le k (take (k + 1) l) up (omega (arith, first)) ∙ take-take k (k + 1) l (omega arith))
        (ap (drop (suc k)) split ∙ drop_at (take (k + 1) l) up (suc k) (omega (arith, first)))

  module _ (inside : k < length l) where
    -- all from k on, up, but for the last
    pub open_is : {a : List A} → a ≡ paste l (k + 1) (drop k l) (length l - 1 - k) → set a k x ≡ take (length l) (take k l ++ (x ∷ drop k l))
    open_is e =
        ap (λ (t : List A). set t k x) e
        ∙ opened m (omega arith)
        ∙ ap (λ (t : List A). take k l ++ (x ∷ t)) (ap (λ (t : List A). front ++ t) none ∙ append-nil front)
        ∙ sym (ap (take (length l)) whole ∙ take_at (take k l ++ (x ∷ front)) (drop m (drop k l)) (length l) count)
      where
        m : ℕ
        m = length l - 1 - k

        front : List A
        front = take (length l - 1 - k) (drop k l)

        none : drop (k + 1 + (length l - 1 - k)) l ≡ []
        none = drop_of_length-le l {i = k + 1 + (length l - 1 - k)} (omega arith)

        whole : take k l ++ (x ∷ drop k l) ≡ (take k l ++ (x ∷ take (length l - 1 - k) (drop k l))) ++ drop (length l - 1 - k) (drop k l)
        whole =
            ap (λ (t : List A). take k l ++ (x ∷ t)) (sym (take-append-drop (length l - 1 - k) (drop k l)))
            ∙ sym (append_assoc (take k l) (x ∷ take (length l - 1 - k) (drop k l)) (drop (length l - 1 - k) (drop k l)))

        count : length (take k l ++ (x ∷ take (length l - 1 - k) (drop k l))) ≡ length l
        count =
            let before = length-take-le k l (omega arith) in
            let rest = length-drop k l in
            let after = length-take-le (length l - 1 - k) (drop k l) (omega arith) in
            let both = length-append (take k l) (x ∷ take (length l - 1 - k) (drop k l)) in
            omega arith

    shorter : length (take k l ++ drop (k + 1) l) ≡ length l - 1
    shorter =
        let before = length-take-le k l (omega arith) in
        let rest = length-drop (k + 1) l in
        let both = length-append (take k l) (drop (k + 1) l) in
        omega arith

    -- all behind k, down
    pub closed : {a : List A} → a ≡ paste l k (drop (k + 1) l) (length l - (k + 1)) → set a (length l - 1) x ≡ take k l ++ drop (k + 1) l ++ (x ∷ [])
    closed e =
        ap (λ (t : List A). set t (length l - 1) x) (e ∙ ap₂ (λ (s t : List A). take k l ++ s ++ t) all last)
        ∙ set_at (take k l ++ drop (k + 1) l) _ [] x (length l - 1) shorter
      where
        all : take (length l - (k + 1)) (drop (k + 1) l) ≡ drop (k + 1) l
        all = let rest = length-drop (k + 1) l in take_all (length l - (k + 1)) (drop (k + 1) l) (omega arith)

        last : drop (k + (length l - (k + 1))) l ≡ get_or l (length l - 1) x ∷ []
        last =
            let same : k + (length l - (k + 1)) ≡ length l - 1 = omega arith in
            ap (λ (i : ℕ). drop i l) same
            ∙ drop-cons l (length l - 1) x (omega arith)
            ∙ ap (λ (t : List A). get_or l (length l - 1) x ∷ t) (drop_of_length-le l {i = suc (length l - 1)} (omega arith))

    -- and so no more places than before
    pub close_is : {a : List A} → a ≡ paste l k (drop (k + 1) l) (length l - (k + 1)) → set a (length l - 1) x ≡ take (length l) (take k l ++ drop (k + 1) l ++ (x ∷ []))
    close_is e =
        let whole = length-append (take k l ++ drop (k + 1) l) (x ∷ []) in
        closed e ∙ sym (take_all (length l) (take k l ++ drop (k + 1) l ++ (x ∷ [])) (omega (arith, shorter)))
