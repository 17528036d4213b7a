-- Planning's refusals come first, with their numbers; then 23 and 15 are asked. Δ and d are planning's. Assumes nothing.
use mathlib.Core.Path.{◌≡◌, sym, ap, ◌∙◌}
use mathlib.Core.Bool.{not}
use Rattle.std.specs.Prelude.{Ok, Err}
use Rattle.network.proofs.Ranges.{ranges}
use Rattle.network.proofs.Answers.{fine}
use Rattle.network.specs.Network.{worst}
use Rattle.host.specs.declared.Refusal.TheVariants.{BadValue, NotInPlan}
use Rattle.host.specs.Answers.{of_plan}
use Rattle.host.specs.Make.{make_refusal}
use Rattle.host.proofs.Fresh.{make_refusal_lem, plan_refusal_lem, plan_bounds, plan_first, refused_making, bound_rules}
use Rattle.host.proofs.Numbers.{passed, failed, err_is}
use Rattle.host.proofs.making.make.Goals as goal

pub returns-in_err-bounds : goal.returns-in_err-bounds
returns-in_err-bounds c =
    let a = c.args in
    let q = c.in_err-bounds.field-0.0 in
    refused_making a.plan a.rules a.own (of_plan q) _ (err_is _ (of_plan q) c.from_residual.ensures.1) (plan_first a.plan a.rules a.own q c.in_err-bounds.ensures)

pub returns-in_err-refuse_if : goal.returns-in_err-refuse_if
returns-in_err-refuse_if c =
    let a = c.args in
    let f = failed _ _ _ _ c.refuse_if.ensures c.in_err-refuse_if.was in
    let fine = plan_refusal_lem a.plan (Ok c.in_ok-bounds.bounds) c.in_ok-bounds.ensures in
    refused_making a.plan a.rules a.own BadValue _ (err_is _ _ c.from_residual-in_err-refuse_if.ensures.1 ∙ ap Err f.1) (sym (make_refusal_lem a.plan a.rules a.own 0 fine ∙ (rw (ap not (sym c.is_rules.ensures) ∙ f.0))))

pub returns-in_err-refuse_if-2 : goal.returns-in_err-refuse_if-2
returns-in_err-refuse_if-2 c =
    let a = c.args in
    let p = passed _ _ _ c.refuse_if.ensures c.in_ok-refuse_if.was in
    let f = failed _ _ _ _ c.refuse_if-2.ensures c.in_err-refuse_if-2.was in
    let fine = plan_refusal_lem a.plan (Ok c.in_ok-bounds.bounds) c.in_ok-bounds.ensures in
    refused_making a.plan a.rules a.own NotInPlan _ (err_is _ _ c.from_residual-in_err-refuse_if-2.ensures.1 ∙ ap Err f.1) (sym (make_refusal_lem a.plan a.rules a.own 0 fine ∙ (rw (ap not (sym c.is_rules.ensures) ∙ p, f.0))))

pub clear-requires : goal.clear-requires
clear-requires c = (ranges _ (fine _ (plan_refusal_lem c.args.plan (Ok c.in_ok-bounds.bounds) c.in_ok-bounds.ensures)).ranges).links_high

pub returns : goal.returns
returns c =
    let a = c.args in
    let p = passed _ _ _ c.refuse_if.ensures c.in_ok-refuse_if.was in
    let f = passed _ _ _ c.refuse_if-2.ensures c.in_ok-refuse_if-2.was in
    let fine = plan_refusal_lem a.plan (Ok c.in_ok-bounds.bounds) c.in_ok-bounds.ensures in
    let b = plan_bounds a.plan c.in_ok-bounds.bounds c.in_ok-bounds.ensures in
    let e : make_refusal a.plan a.rules a.own ≡ 0 = make_refusal_lem a.plan a.rules a.own 0 fine ∙ (rw (ap not (sym c.is_rules.ensures) ∙ p, f)) in
    record {
      host_value = rw (c.no_starts.ensures, c.clear.ensures, c.bound_of.ensures, b, bound_rules a.plan (worst a.plan) a.rules, e);
      answer_value = sym e;
    }
