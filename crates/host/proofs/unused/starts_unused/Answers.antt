-- The walk is over the places that are not used. Assumes nothing.
use mathlib.Core.Path.{◌≡◌, ◌∙◌}
use lib.ListN.{length, drop}
use Rattle.std.proofs.Common.{rules, tests}
use Rattle.std.proofs.lemmas.Iterator.{YieldsList-from_slice}
use Rattle.std.proofs.lemmas.Iterator.Search.{all_from_yields_List}
use Rattle.host.specs.State.{is_no_reading}
use Rattle.host.proofs.Lists.{all_same, rest_same}
use Rattle.host.proofs.unused.starts_unused.Goals as goal

pub returns : goal.returns
returns c =
    let a = c.args in
    let long : length a.starts ≡ 4 = search rules in
    let rest = rest_same 4 a.used c.min.result a.starts long c.min.ensures in
    all_from_yields_List is_no_reading _ _ _ c.all.ensures.ran (YieldsList-from_slice (drop a.used a.starts) (c.iter.ensures.rest ∙ rest)) (λ x b q k. search (rules, tests)) ∙ all_same is_no_reading (drop a.used a.starts)
