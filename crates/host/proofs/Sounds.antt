-- What the test of soundness says of a frame and of the places of a stored history: f tells the order that stands in a place. Assumes nothing.
use mathlib.Core.Path.{◌≡◌, sym, ap, ap₂, ◌∙◌}
use mathlib.Core.Bool.{Bool, true, false, ◌&&◌, and-false}
use mathlib.Core.List.{List, [], ◌∷◌, map}
use Prim.Native.Nat.{ℕ, ◌≤◌}
use borrow.Author.Tests.{le-leb}
use lib.Dec.{leb}
use lib.ListN.{take, drop, get_or}
use Rattle.lists.specs.Lists.{all, rising}
use Rattle.lists.specs.Tests.{all_of}
use Rattle.lists.proofs.TestLaws.{all_miss, each_all}
use Rattle.lists.proofs.Maps.{take_map, drop_map, all_of_lem, rising_of}
use Rattle.network.specs.Network.{n}
use Rattle.host.specs.declared.Frame.{Frame}
use Rattle.host.specs.declared.Held.{Held}
use Rattle.host.specs.declared.Host.{Host}
use Rattle.host.specs.State.{is_no_held, last_start, fits, before, own_started, frame_tests, history_tests, framed, sound, bare}
use Rattle.host.specs.Inside.{stored}

module _ {A : Type 0} (f : A → Held) (g : Frame) (l : List A) where
  abbrev h : Host
  h = stored g (map f l)

  abbrev fit : A → Bool
  fit e = fits (n g.plan) (f e)

  abbrev front : A → A → Bool
  front x y = before (f x) (f y)

  abbrev begun : A → Bool
  begun e = own_started g.own g.started (last_start (bare g)) (f e)

  abbrev unused : A → Bool
  unused e = is_no_held (f e)

  abbrev tests : List Bool
  tests = leb g.held 32 ∷ all fit (take g.held l) ∷ rising front (take g.held l) ∷ all begun (take g.held l) ∷ all unused (drop g.held l) ∷ []

  history_in : all_of (history_tests h) ≡ all_of tests
  unfolding history_tests
  history_in =
      rw (
        take_map f g.held l,
        drop_map f g.held l,
        all_of_lem f (fits (n g.plan)) (take g.held l),
        rising_of f before (take g.held l),
        all_of_lem f (own_started g.own g.started (last_start (bare g))) (take g.held l),
        all_of_lem f is_no_held (drop g.held l),
      )

  -- the frame alone is unsound
  pub unframed : framed (bare g) ≡ false → sound h ≡ false
  unfolding frame_tests
  unframed e = ap (λ (t : Bool). t && all_of (history_tests h)) e

  -- the test of the history at place i fails
  pub misses : (i : ℕ) → get_or tests i true ≡ false → sound h ≡ false
  misses i e = ap (λ (t : Bool). framed h && t) (history_in ∙ all_miss tests i e) ∙ and-false (framed h)

  -- where all else passes, the unused places decide
  pub rest : (b : Bool) → framed (bare g) ≡ true → g.held ≤ 32 → all fit (take g.held l) ≡ true → rising front (take g.held l) ≡ true → all begun (take g.held l) ≡ true
      → b ≡ all unused (drop g.held l) → b ≡ sound h
  unfolding frame_tests
  rest true s few a r o e = sym (ap₂ (λ (s t : Bool). s && t) s (history_in ∙ each_all tests (le-leb _ _ few, (a, (r, (o, (sym e, tt)))))))
  rest false s few a r o e = sym (misses 4 (sym e))
