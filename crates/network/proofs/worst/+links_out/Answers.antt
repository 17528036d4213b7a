-- By recursion with i falling: place i - 1 in the set, or not. Assumes nothing.
use mathlib.Core.Path.{sym, ◌∙◌}
use Prim.Native.Nat.{◌-◌}
use native.Mathlib.Omega.{arith}
use borrow.Author.Rules.{rules}
use Rattle.network.specs.Network.{m, L, within, diameter}
use Rattle.network.specs.Inside.{at_links}
use Rattle.network.proofs.PairLaws.{itself}
use Rattle.network.proofs.Distances.{at_links_bound}
use Rattle.network.proofs.Nexts.{within_spreads}
use Rattle.network.proofs.Diameters.{left_over}
use Rattle.network.proofs.Halves.{full}
use Rattle.network.proofs.Turns.{turn, stops, skips, meets}
use Rattle.network.proofs.Outs.{link_less, dead_link, not_tried}
use Rattle.network.proofs.worst.+links_out.Goals as goal

pub returns-then-i-ls : goal.returns-then-i-ls
unfolding within
returns-then-i-ls _ c =
    λ hs all joined.
    let g = c.args in
    let small = g.p.small in
    left_over g.p.plan small hs g.ls g.all _ all
    (c.reach.ensures.by_index (within g.p.plan (record { hosts = hs; links = g.ls })) itself (within_spreads g.p.plan small (record { hosts = hs; links = g.ls }) g.joined joined))
    ∙ sym (full g.i (m g.p.plan) (L g.p.plan) g.ls c.requires.upper c.if-i-ls.true (λ x. diameter g.p.plan (record { hosts = hs; links = x })))

pub links_out-requires : goal.links_out-requires
links_out-requires _ c =
    let g = c.args in
    let s = turn g.i (m g.p.plan) (L g.p.plan) g.ls c.requires.upper c.if-i-ls.false g.p.small.links in
    let falls-by-one = s.some_left in
    (omega arith, s.next_without)

pub returns-then-joined-pairs-eq0 : goal.returns-then-joined-pairs-eq0
returns-then-joined-pairs-eq0 _ c =
    λ hs all is.
    let g = c.args in
    let small = g.p.small in
    let s = turn g.i (m g.p.plan) (L g.p.plan) g.ls c.requires.upper c.if-i-ls.false small.links in
    let ends = small.ends (g.i - 1) s.place in
    let hosts = small.hosts in
    let off = dead_link g.p.plan small hs (g.i - 1) s.place g.joined c.ends-pairs.result g.ls (omega arith) (omega arith) s.not_in is c.ends-pairs.ensures c.if-joined-pairs-eq0.true in
    skips s (at_links g.p.plan hs) (not_tried g.p.plan small hs (g.i - 1) s.place off) (c.links_out.ensures hs all is)

pub links_out-d-requires : goal.links_out-d-requires
links_out-d-requires _ c =
    let g = c.args in
    let s = turn g.i (m g.p.plan) (L g.p.plan) g.ls c.requires.upper c.if-i-ls.false g.p.small.links in
    let falls-by-one = s.some_left in
    (omega arith, s.next_with)

pub returns-then-d-p : goal.returns-then-d-p
returns-then-d-p _ c =
    λ hs all is.
    let g = c.args in
    let s = turn g.i (m g.p.plan) (L g.p.plan) g.ls c.requires.upper c.if-i-ls.false g.p.small.links in
    let left = link_less g.p.plan g.p.small hs (g.i - 1) s.place g.ls _ g.joined c.ends-pairs.result s.top s.not_in (search rules) is c.ends-pairs.ensures in
    stops s (at_links g.p.plan hs) g.p.plan.hosts (at_links_bound g.p.plan hs) c.if-d-p.true (c.links_out-d.ensures hs all left)

pub links_out-requires-2 : goal.links_out-requires-2
links_out-requires-2 _ c =
    let g = c.args in
    let s = turn g.i (m g.p.plan) (L g.p.plan) g.ls c.requires.upper c.if-i-ls.false g.p.small.links in
    let falls-by-one = s.some_left in
    (omega arith, s.next_without)

pub returns : goal.returns
returns _ c =
    λ hs all is.
    let g = c.args in
    let s = turn g.i (m g.p.plan) (L g.p.plan) g.ls c.requires.upper c.if-i-ls.false g.p.small.links in
    let left = link_less g.p.plan g.p.small hs (g.i - 1) s.place g.ls _ g.joined c.ends-pairs.result s.top s.not_in (search rules) is c.ends-pairs.ensures in
    meets s (at_links g.p.plan hs) {x = c.links_out-d.result} {y = c.links_out-2.result} (search rules) (c.links_out-d.ensures hs all left) (c.links_out-2.ensures hs all is)
