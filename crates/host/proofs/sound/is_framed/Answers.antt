-- The chain of tests is the list of tests; a count too large fails its own test. Assumes nothing.
use mathlib.Core.Path.{sym}
use borrow.Author.Tests.{lt-leb}
use Rattle.lists.proofs.TestLaws.{all_miss, all_chain}
use Rattle.host.specs.State.{frame_tests, bare}
use Rattle.host.proofs.sound.is_framed.Goals as goal

pub returns-then-started-gt4 : goal.returns-then-started-gt4
unfolding frame_tests
returns-then-started-gt4 c = sym (all_miss (frame_tests (bare c.args.frame)) 4 (lt-leb _ _ c.if-started-gt4.true))

pub returns : goal.returns
unfolding frame_tests
returns c =
    rw (
      c.is_proper.ensures,
      c.bound.ensures,
      c.starts_rise.ensures,
      c.starts_passed.ensures,
      c.is_rules.ensures,
      c.links_unused.ensures,
      c.from.ensures,
      c.starts_unused.ensures,
    )
    (all_chain _ _)
