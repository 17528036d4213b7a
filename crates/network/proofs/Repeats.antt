-- What makes a link bad, by the pairs seen before it. Assumes nothing.
use mathlib.Core.Path.{◌≡◌, sym, ap, ap₂, ◌∙◌}
use mathlib.Core.Bool.{Bool, true, false, ◌&&◌, ◌||◌, and-true}
use mathlib.Core.Logic.{⊎_elim}
use Prim.Native.Nat.{ℕ, ◌+◌, ◌*◌, ◌%◌, ◌^◌, ◌<◌}
use native.Mathlib.Omega.{arith}
use borrow.Author.Tests.{leb-false, lt-leb}
use lib.Dec.{eqb, leb}
use lib.Bits.{bit_or}
use Rattle.lists.specs.Searches.{some}
use Rattle.lists.specs.Tests.{all_of, any_of}
use Rattle.lists.proofs.Bools.{or_left_lem, or_right, or_true_left, or_true_right, or_cases}
use Rattle.lists.proofs.SearchLaws.{some_same, some_more}
use Rattle.lists.proofs.TestLaws.{each_none}
use Rattle.network.specs.Network.{n, link, same, bad_link}
use Rattle.network.specs.Inside.{pair, Pairs, is_pair}
use Rattle.network.specs.declared.Plan.{Plan}
use Rattle.network.proofs.Bits.{has_more}
use Rattle.network.proofs.PairLaws.{one_pair}

pub ordered : (a b k : ℕ) → (leb b a || leb k b) ≡ false → (a < b) × (b < k)
ordered a b k e = (leb-false b a (or_left_lem (leb b a) _ e), leb-false k b (or_right (leb b a) _ e))

module _ (p : Plan) (i : ℕ) where
  -- its ends are not a < b < n
  pub bad_ends : (leb (link p i).b (link p i).a || leb (n p) (link p i).b) ≡ true → bad_link p i ≡ true
  unfolding bad_link any_of
  bad_ends e =
      or_true_right (leb (n p) (link p i).a) _
      (⊎_elim (λ q. or_true_right (leb (n p) (link p i).b) _ (or_true_left _ _ q)) (λ q. or_true_left _ _ q) (or_cases (leb (link p i).b (link p i).a) _ e))

  again : some i (same p i) ≡ some i (is_pair p (link p i).a (link p i).b)
  unfolding same is_pair all_of
  again = some_same i _ _ (λ j h. ap (λ (t : Bool). eqb (link p i).a (link p j).a && t) (and-true (eqb (link p i).b (link p j).b)))

  pub bad_again : some i (is_pair p (link p i).a (link p i).b) ≡ true → bad_link p i ≡ true
  unfolding bad_link any_of
  bad_again e =
      or_true_right (leb (n p) (link p i).a) _
      (or_true_right (leb (n p) (link p i).b) _ (or_true_right (leb (link p i).b (link p i).a) _ (or_true_left _ _ (again ∙ e))))

  pub not_bad : (link p i).a < (link p i).b → (link p i).b < n p → some i (is_pair p (link p i).a (link p i).b) ≡ false → bad_link p i ≡ false
  unfolding bad_link
  not_bad h l e = each_none _ (lt-leb (n p) (link p i).a (omega arith), (lt-leb _ _ l, (lt-leb _ _ h, (again ∙ e, tt))))

  -- the pairs seen, with this one
  pub seen_more : (seen : ℕ) → (link p i).a < 8 → (link p i).b < 8 → Pairs seen (λ x y. some i (is_pair p x y))
      → Pairs (bit_or seen ((1 * 2 ^ pair (link p i).a (link p i).b) % 2 ^ 64)) (λ x y. some (i + 1) (is_pair p x y))
  unfolding is_pair
  seen_more seen ha hb is x y hx hy =
      has_more seen _ (pair x y)
      ∙ ap₂ (λ (s t : Bool). s || t)
      (one_pair (link p i).a (link p i).b ha hb x y hx hy) (is x y hx hy)
      ∙ sym (some_more (is_pair p x y) i)
