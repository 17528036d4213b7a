-- Counting the records: what the counts are after each turn, what they are at the end, and how large they are. Assumes nothing.
use mathlib.Core.Path.{◌≡◌, refl, sym, ap, ap₂, ◌∙◌}
use mathlib.Core.Bool.{Bool, true, false, cond}
use mir.Val.{bool_byte}
use mathlib.Core.List.{List}
use Prim.Native.Nat.{ℕ, ◌+◌, ◌≤◌, ◌<◌}
use native.Mathlib.Omega.{arith}
use borrow.Author.Count.{below_more}
use borrow.Author.Tests.{leb-true}
use lib.Dec.{eqb}
use lib.ListN.{length, get_or}
use Rattle.lists.specs.Searches.{count, each}
use Rattle.lists.proofs.CountLaws.{count_start, count_next, count_le}
use Rattle.lists.proofs.TestLaws.{all_each}
use Rattle.fields.specs.Fields.{stated_at}
use Rattle.schedule.specs.Shape.{place, records, tagged, links, starts, right_at, right, is_schedule}
use Rattle.schedule.proofs.Walks.{place_start, place_step, all_met}

-- k records up to a place, l of them links and s starts, each of which begins within the bytes
pub record Partly (bs : List ℕ) (k l s at : ℕ) : Type 0 where
  pub end_is : at ≡ place bs k
  pub links_are : l ≡ count k (tagged bs 17)
  pub starts_are : s ≡ count k (tagged bs 21)
  pub far : k ≤ at
  pub few : k ≤ length bs
  pub inside : (j : ℕ) → j < k → place bs j < length bs

-- the counts of all records
pub record Counted (bs : List ℕ) (k l s at : ℕ) : Type 0 where
  pub count_is : k ≡ records bs
  pub links_are : l ≡ links bs
  pub starts_are : s ≡ starts bs
  pub end_is : at ≡ place bs k

-- a test as a number
pub one_if : (t : Bool) → bool_byte t ≡ cond t 1 0
one_if true = refl
one_if false = refl

pub one_most : (t : Bool) → bool_byte t ≤ 1
one_most true = omega arith
one_most false = omega arith

module _ (bs : List ℕ) where
  pub partly_start : Partly bs 0 0 0 0
  partly_start =
      record {
        end_is = sym (place_start bs);
        links_are = sym (count_start (tagged bs 17));
        starts_are = sym (count_start (tagged bs 21));
        far = omega arith;
        few = omega arith;
        inside = λ j h. let none : ⊥ = omega arith in absurd none;
      }

  module _ (k l s at : ℕ) (p : Partly bs k l s at) where
    -- one more is counted where it has the tag
    counted_next : (tag x : ℕ) → x ≡ count k (tagged bs tag) → x + cond (eqb (get_or bs at 0) tag) 1 0 ≡ count (k + 1) (tagged bs tag)
    counted_next tag x e =
        ap₂ ◌+◌ e (ap (λ (at : ℕ). cond (eqb (get_or bs at 0) tag) 1 0) p.end_is)
        ∙ sym (count_next (tagged bs tag) k)

    pub partly_next : at < length bs
        → Partly bs (k + 1) (l + cond (eqb (get_or bs at 0) 17) 1 0) (s + cond (eqb (get_or bs at 0) 21) 1 0) (at + 3 + stated_at bs at)
    partly_next h =
        let in_bytes : place bs k < length bs = rw (← p.end_is) h in
        record {
          end_is = place_step bs k at p.end_is;
          links_are = counted_next 17 l p.links_are;
          starts_are = counted_next 21 s p.starts_are;
          far = omega (arith, p.far);
          few = omega (arith, p.far);
          inside = below_more _ _ p.inside in_bytes;
        }

    pub partly_few : (l ≤ k) × (s ≤ k)
    partly_few = (omega (arith, p.links_are, count_le k (tagged bs 17)), omega (arith, p.starts_are, count_le k (tagged bs 21)))

    pub partly_end : length bs ≤ at → Counted bs k l s at
    partly_end h =
        let e : k ≡ records bs = all_met bs k p.few p.inside (rw p.end_is at h) in
        record {
          count_is = e;
          links_are = p.links_are ∙ ap (λ (k : ℕ). count k (tagged bs 17)) e;
          starts_are = p.starts_are ∙ ap (λ (k : ℕ). count k (tagged bs 21)) e;
          end_is = p.end_is;
        }

  -- ---- how many there are

  pub links_few : links bs ≤ records bs
  links_few = count_le (records bs) (tagged bs 17)

  -- ---- what the shape says

  pub record Shape : Type 0 where
    pub few_links : links bs ≤ 12
    pub few_starts : starts bs ≤ 16
    pub enough : links bs + starts bs + 4 ≤ records bs
    pub rights : each (records bs) (right bs) ≡ true

  pub shape : is_schedule bs ≡ true → Shape
  unfolding is_schedule
  shape s =
      let a = all_each _ s in
      record {
        few_links = leb-true (links bs) 12 a.1.1.0;
        few_starts = leb-true (starts bs) 16 a.1.1.1.0;
        enough = leb-true (links bs + starts bs + 4) (records bs) a.1.1.1.1.0;
        rights = a.1.1.1.1.1.0;
      }

  pub right_here : (l s k at : ℕ) → l ≡ links bs → s ≡ starts bs → at ≡ place bs k → right_at bs l s k at ≡ right bs k
  right_here l s k at e f g = rw (e, f, g)
