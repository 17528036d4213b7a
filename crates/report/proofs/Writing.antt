-- A writer after another is one writer. Assumes nothing.
use mathlib.Core.Path.{◌≡◌, refl, sym, ap, ◌∙◌}
use mathlib.Core.Bool.{Bool, true, false}
use mathlib.Core.List.{List, [], ◌∷◌, ◌++◌, append_assoc, append-nil}
use Prim.Native.Nat.{ℕ, suc, ◌+◌, ◌/◌, ◌%◌, ◌^◌, ◌≤◌, ◌<◌, min}
use native.Mathlib.Numerals.{add-one}
use native.Mathlib.Omega.{arith}
use borrow.Author.Tests.{ltb-true, ltb-false, lt-ltb, le-ltb}
use lib.Dec.{ltb}
use lib.ListN.{length, get_or, take, length-append}
use lib.Seq.{sets, length-sets, take-suc}
use Rattle.std.proofs.lemmas.List.{set_past}
use Rattle.lists.specs.Lists.{flat, listed}
use Rattle.std.specs.Fmt as std-fmt
use Rattle.std.proofs.lemmas.Fmt.{AppendsLastDigit, decimal_from_appends, length-decimal-le, decimal_digit, decimal_step}
use Rattle.fields.proofs.Placing.{sets_then}
use Rattle.report.specs.declared.writers.Writer.{Writer}
use Rattle.report.specs.Text.{digits, decimal}
use Rattle.report.specs.Inside.{last, Counts, Wrote}

-- past the end nothing is written
sets_past : (l : List ℕ) (at : ℕ) (bs : List ℕ) → length l ≤ at → sets l at bs ≡ l
sets_past l at [] h = refl
sets_past l at (b ∷ bs) h = ap (λ (t : List ℕ). sets t (suc at) bs) (set_past l at b h) ∙ sets_past l (suc at) bs (omega arith)

-- so it does not matter that the count stops
sets_counted : (l : List ℕ) (at : ℕ) (bs : List ℕ) → length l ≤ last → sets l (min at last) bs ≡ sets l at bs
sets_counted l at bs h = go (ltb at last) refl
  where
    go : (t : Bool) → ltb at last ≡ t → sets l (min at last) bs ≡ sets l at bs
    go true e = let k : at < last = ltb-true at last e in let same : min at last ≡ at = omega arith in ap (λ (i : ℕ). sets l i bs) same
    go false e =
        let k : last ≤ at = ltb-false at last e in
        let same : min at last ≡ last = omega arith in
        ap (λ (i : ℕ). sets l i bs) same ∙ sets_past l last bs h ∙ sym (sets_past l at bs (omega arith))

pub wrote_none : (w : Writer) → Wrote w [] w
wrote_none w = record { same = refl; put = λ h. refl; end = λ h. let k = h.place in omega arith }

module _ {w m v : Writer} {xs ys : List ℕ} where
  pub wrote_then : Wrote w xs m → Wrote m ys v → Wrote w (xs ++ ys) v
  wrote_then a b =
      let n : length (xs ++ ys) ≡ length xs + length ys = length-append xs ys in
      let counts : Counts w → Counts m = λ (h : Counts w). record { place = omega (arith, a.end h); long = let k = h.long in omega (arith, ap length (a.put h), length-sets w.out.now w.at xs) } in
      record {
        same = b.same ∙ a.same;
        put = λ h. sets_then w.out.now m.out.now v.out.now w.at (w.at + length xs) xs ys (a.put h) (b.put (counts h) ∙ ap (λ (i : ℕ). sets m.out.now i ys) (a.end h) ∙ sets_counted m.out.now (w.at + length xs) ys (counts h).long) refl;
        end = λ h. omega (arith, a.end h, b.end (counts h));
      }

pub wrote_length : {w v : Writer} {xs : List ℕ} → Wrote w xs v → Counts w → length v.out.now ≡ length w.out.now
wrote_length {w} {v} {xs} a h = ap length (a.put h) ∙ length-sets w.out.now w.at xs

-- the same bytes by another name
pub wrote_as : {w v : Writer} {xs ys : List ℕ} → xs ≡ ys → Wrote w xs v → Wrote w ys v
wrote_as {w} {v} e a = rw (sym e) a

-- ---- numbers

appends : AppendsLastDigit digits
unfolding digits
appends = record { one = λ k n h. rw (lt-ltb n 10 h); more = λ k n h. rw (le-ltb n 10 h) }

-- std's decimal
decimal_is : (x : ℕ) → x < 2 ^ 64 → decimal x ≡ std-fmt.decimal x
decimal_is x h = decimal_from_appends digits appends 20 x h (length-decimal-le 20 x (omega arith) (omega arith) h)

pub decimal_last : (x : ℕ) → x < 10 → (48 + x % 10) ∷ [] ≡ decimal x
decimal_last x h = let same : x % 10 ≡ x = omega arith in ap (λ (d : ℕ). (48 + d) ∷ []) same ∙ sym (decimal_is x (omega arith) ∙ decimal_digit x h)

pub decimal_more : (x : ℕ) → 10 ≤ x → x < 2 ^ 64 → decimal (x / 10) ++ ((48 + x % 10) ∷ []) ≡ decimal x
decimal_more x l h = ap (λ (t : List ℕ). t ++ ((48 + x % 10) ∷ [])) (decimal_is (x / 10) (omega arith)) ∙ sym (decimal_is x h ∙ decimal_step x l h)

-- ---- runs of pieces

pub flat_more : {A : Type 0} (l : List (List A)) (x : List A) → flat (l ++ (x ∷ [])) ≡ flat l ++ x
flat_more [] x = append-nil x
flat_more (y ∷ l) x = ap (λ t. y ++ t) (flat_more l x) ∙ sym (append_assoc y (flat l) x)

pub pieces_none : {A : Type 0} (f : ℕ → List A) → [] ≡ flat (listed 0 f)
unfolding listed
pieces_none f = refl

pub pieces_more : {A : Type 0} (f : ℕ → List A) (i : ℕ) → flat (listed i f) ++ f i ≡ flat (listed (i + 1) f)
unfolding listed
pieces_more f i = sym (ap (λ (n : ℕ). flat (listed n f)) (add-one i) ∙ flat_more (listed i f) (f i))

pub take_more : (l : List ℕ) (i : ℕ) → i < length l → take i l ++ (get_or l i 0 ∷ []) ≡ take (i + 1) l
take_more l i h = rw (add-one i) (sym (take-suc l i 0 h))
