-- By recursion with i falling: place i - 1 in the set, or not. Assumes nothing.
use mathlib.Core.Path.{sym, ◌∙◌}
use Prim.Native.Nat.{◌-◌}
use native.Mathlib.Omega.{arith}
use borrow.Author.Rules.{rules}
use Rattle.network.specs.Network.{n, π, worst_links}
use Rattle.network.specs.Inside.{at_links, at_hosts}
use Rattle.network.proofs.Distances.{at_hosts_bound}
use Rattle.network.proofs.Halves.{full, from_zero}
use Rattle.network.proofs.Turns.{turn, stops, meets}
use Rattle.network.proofs.Outs.{host_less, all_wanted, all_joined}
use Rattle.network.proofs.worst.+hosts_out.Goals as goal

pub returns-then-i-hs : goal.returns-then-i-hs
unfolding worst_links
returns-then-i-hs _ c =
    let g = c.args in
    let pre = c.requires in
    c.links_out.ensures g.hs (all_wanted g.p.plan g.p.small g.hs g.survivors pre.pairs_2) (all_joined g.p.plan g.p.small g.hs g.links g.survivors pre.pairs pre.pairs_2)
    ∙ from_zero _ (at_links g.p.plan g.hs)
    ∙ sym (full g.i (n g.p.plan) (π g.p.plan) g.hs pre.upper c.if-i-hs.true (worst_links g.p.plan))

pub hosts_out-d-requires : goal.hosts_out-d-requires
hosts_out-d-requires _ c =
    let g = c.args in
    let pre = c.requires in
    let hosts = g.p.small.hosts in
    let s = turn g.i (n g.p.plan) (π g.p.plan) g.hs pre.upper c.if-i-hs.false (omega arith) in
    let falls-by-one = s.some_left in
    let left = host_less g.p.plan g.p.small g.hs (g.i - 1) _ g.survivors c.with_host.result s.top s.not_in (search rules) pre.pairs_2 c.with_host.ensures in
    (omega arith, (s.next_with, (pre.pairs, left)))

pub returns-then-d-p : goal.returns-then-d-p
returns-then-d-p _ c =
    let g = c.args in
    let hosts = g.p.small.hosts in
    let s = turn g.i (n g.p.plan) (π g.p.plan) g.hs c.requires.upper c.if-i-hs.false (omega arith) in
    stops s (at_hosts g.p.plan) g.p.plan.hosts (at_hosts_bound g.p.plan) c.if-d-p.true c.hosts_out-d.ensures

pub hosts_out-requires : goal.hosts_out-requires
hosts_out-requires _ c =
    let g = c.args in
    let pre = c.requires in
    let hosts = g.p.small.hosts in
    let s = turn g.i (n g.p.plan) (π g.p.plan) g.hs pre.upper c.if-i-hs.false (omega arith) in
    let falls-by-one = s.some_left in
    (omega arith, (s.next_without, (pre.pairs, pre.pairs_2)))

pub returns : goal.returns
returns _ c =
    let g = c.args in
    let hosts = g.p.small.hosts in
    let s = turn g.i (n g.p.plan) (π g.p.plan) g.hs c.requires.upper c.if-i-hs.false (omega arith) in
    meets s (at_hosts g.p.plan) {x = c.hosts_out-d.result} {y = c.hosts_out.result} (search rules) c.hosts_out-d.ensures c.hosts_out.ensures
