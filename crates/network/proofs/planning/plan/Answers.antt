-- Each return has the tests that its answer asks for, in the order of check. Assumes nothing.
use Prim.Native.Nat.{ℕ, ◌≤◌, ◌<◌}
use Rattle.network.proofs.Ranges.{ranges, small}
use Rattle.network.proofs.Answers.{says_out, says_bad, says_parted, says_accepted}
use mathlib.Core.Path.{sym, ◌∙◌, subst}
use Rattle.network.proofs.planning.plan.Goals as goal

pub returns-then-not-in_range : goal.returns-then-not-in_range
returns-then-not-in_range c = says_out _ (sym c.in_range.ensures ∙ c.if-not-in_range.true)

pub returns-then-has_bad_link : goal.returns-then-has_bad_link
returns-then-has_bad_link c = says_bad _ (sym c.in_range.ensures ∙ c.if-not-in_range.false) (sym c.has_bad_link.ensures ∙ c.if-has_bad_link.true)

pub invariant_of-worst_of : goal.invariant_of-worst_of
invariant_of-worst_of c = record { small = small _ (sym c.in_range.ensures ∙ c.if-not-in_range.false) (sym c.has_bad_link.ensures ∙ c.if-has_bad_link.false) }

pub returns-then-d-p : goal.returns-then-d-p
returns-then-d-p c =
    let near = subst (λ (d : ℕ). c.args.p.hosts ≤ d) c.worst_of-d.ensures c.if-d-p.true in
    says_parted _ (sym c.in_range.ensures ∙ c.if-not-in_range.false) (sym c.has_bad_link.ensures ∙ c.if-has_bad_link.false) near

pub returns : goal.returns
returns c =
    let p = c.args.p in
    let near = subst (λ (d : ℕ). d < p.hosts) c.worst_of-d.ensures c.if-d-p.false in
    simp (c.timing_of.ensures, c.timing_of-2.ensures, c.worst_of-d.ensures) (says_accepted p (sym c.in_range.ensures ∙ c.if-not-in_range.false) (sym c.has_bad_link.ensures ∙ c.if-has_bad_link.false) near)

pub has_bad_link-requires : goal.has_bad_link-requires
has_bad_link-requires c = let r = ranges _ (sym c.in_range.ensures ∙ c.if-not-in_range.false) in record { hosts_bound = r.hosts_high; link_count_bound = r.links_high }
