-- The test of each number in turn. Assumes nothing.
use Prim.Native.Nat.{◌+◌}
use borrow.Author.Tests.{tests}
use lib.Dec.{leb}
use lib.ListN.{get_or}
use Rattle.std.proofs.Common.{rules}
use Rattle.std.proofs.lemmas.Iterator.{YieldsList-from_range}
use Rattle.std.proofs.lemmas.Iterator.Search.{any_from_yields_List}
use mathlib.Core.Path.{refl, ◌∙◌}
use native.Mathlib.Omega.{arith}
use Rattle.network.specs.Network.{ε}
use Rattle.schedule.proofs.Ranges.{any_below}
use Rattle.schedule.proofs.rules.Terms.offsets_out.Goals as goal

pub returns : goal.returns
returns c =
    let p = c.args.self.plan in
    let h = c.args.here in
    any_from_yields_List (λ i. leb (ε p) (get_or h.bytes.now (h.at + 3 + i) 0)) _ _ _ c.any.ensures.ran (YieldsList-from_range 0 p.hosts p.hosts refl (omega arith)) (λ x b q k. search (rules, tests)) ∙ any_below _ p.hosts
