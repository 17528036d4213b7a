-- What each test of a plan makes planning say, and back: what an answer says of the plan. Assumes nothing.
use mathlib.Core.Path.{◌≡◌, refl}
use mathlib.Core.Bool.{true, false}
use Prim.Native.Nat.{◌≤◌, ◌<◌}
use borrow.Author.Tests.{not-false, le-leb, lt-leb, leb-false}
use Rattle.lists.proofs.TestLaws.{none_pass}
use Rattle.network.specs.Network.{n, in_range, bad_links, worst, bounds, plan_tests, plan_refusal, refused, planned}
use Rattle.network.specs.declared.Plan.{Plan}

module _ (p : Plan) where
  -- ---- from the tests to the answer, in the order of check

  pub says_out : in_range p ≡ false → refused 1 ≡ planned p
  unfolding plan_tests
  says_out r = simp r

  pub says_bad : in_range p ≡ true → bad_links p ≡ true → refused 2 ≡ planned p
  unfolding plan_tests
  says_bad r e = simp (r, e)

  pub says_parted : in_range p ≡ true → bad_links p ≡ false → n p ≤ worst p → refused 3 ≡ planned p
  unfolding plan_tests
  says_parted r e h = simp (r, e, le-leb _ _ h)

  pub says_accepted : in_range p ≡ true → bad_links p ≡ false → worst p < n p → record { refusal = 0; bounds = bounds p (worst p) } ≡ planned p
  unfolding plan_tests
  says_accepted r e h = simp (r, e, lt-leb _ _ h)

  -- ---- from the answer to the tests

  -- a plan that planning accepts
  pub record Fine : Type 0 where
    pub ranges : in_range p ≡ true
    pub links : bad_links p ≡ false
    pub near : worst p < n p

  pub fine : plan_refusal p ≡ 0 → Fine
  unfolding plan_tests
  fine e =
      let t = none_pass (plan_tests p) refl e in
      record { ranges = not-false _ t.0; links = t.1.0; near = leb-false _ _ t.1.1.0 }
