-- The first links, and the zero link behind them. Assumes nothing.
use native.Mathlib.Omega.{arith}
use borrow.Author.Rules.{rules}
use mathlib.Core.Path.{◌≡◌, ap, ap₂, sym, ◌∙◌}
use mathlib.Core.List.{List, ◌++◌}
use Prim.Native.Nat.{ℕ, ◌-◌}
use lib.ListN.{length, take, replicate}
use lib.Seq.{length-take-le}
use Rattle.std.proofs.lemmas.List.{drop-replicate}
use Rattle.network.specs.Network.{no_link}
use Rattle.network.specs.declared.Link.{Link}
use Rattle.host.proofs.making.first_links.Goals as goal

pub returns : goal.returns
returns c =
    let a = c.args in
    let long : length a.links ≡ 12 = search rules in
    let few : length (take a.count a.links) ≡ a.count = length-take-le a.count a.links (omega arith) in
    ap₂ (λ (l t : List Link). l ++ t) c.copy_from_slice.ensures.after (drop-replicate a.count 12 no_link ∙ ap (λ (k : ℕ). replicate (12 - k) no_link) (sym few))
