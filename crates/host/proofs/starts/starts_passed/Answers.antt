-- The walk is over those used. Assumes nothing.
use mathlib.Core.Path.{◌∙◌}
use lib.ListN.{take}
use Rattle.std.proofs.Common.{rules, tests}
use Rattle.std.proofs.lemmas.Iterator.{YieldsList-from_slice}
use Rattle.std.proofs.lemmas.Iterator.Search.{all_from_yields_List}
use Rattle.host.specs.State.{not_above}
use Rattle.host.proofs.Lists.{all_same}
use Rattle.host.proofs.starts.starts_passed.Goals as goal

pub returns : goal.returns
returns c =
    let a = c.args in
    all_from_yields_List (not_above a.last.0) _ _ _ c.all.ensures.ran (YieldsList-from_slice (take a.started a.starts) cc) (λ x b q k. search (rules, tests)) ∙ all_same (not_above a.last.0) _
