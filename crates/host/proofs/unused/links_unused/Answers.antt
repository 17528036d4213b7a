-- The walk is over the places that are not used. Assumes nothing.
use mathlib.Core.Path.{◌≡◌, ◌∙◌}
use lib.ListN.{length, drop}
use Rattle.std.proofs.Common.{rules, tests}
use Rattle.std.proofs.lemmas.Iterator.{YieldsList-from_slice}
use Rattle.std.proofs.lemmas.Iterator.Search.{all_from_yields_List}
use Rattle.host.specs.State.{is_no_link}
use Rattle.host.proofs.Lists.{all_same, rest_same}
use Rattle.host.proofs.unused.links_unused.Goals as goal

pub returns : goal.returns
returns c =
    let a = c.args in
    let long : length a.links ≡ 12 = search rules in
    let rest = rest_same 12 a.used c.min.result a.links long c.min.ensures in
    all_from_yields_List is_no_link _ _ _ c.all.ensures.ran (YieldsList-from_slice (drop a.used a.links) (c.iter.ensures.rest ∙ rest)) (λ x b q k. search (rules, tests)) ∙ all_same is_no_link (drop a.used a.links)
