-- A refusal says its number; else the links and the hop are those of the definition. Assumes nothing.
use mathlib.Core.Path.{sym, ap, ◌∙◌}
use Rattle.host.specs.Answers.{refusal_of}
use Rattle.host.specs.OwnLinks.{placed}
use Rattle.host.proofs.Numbers.{says_sent}
use Rattle.host.proofs.Sets.{placed_most, all_own}
use Rattle.host.proofs.starting.start_answer.Goals as goal

pub returns : goal.returns
returns c =
    let f = c.args.frame in
    says_sent _ _ _ _ (sym c.start_checks.ensures ∙ ap refusal_of c.in_ok-start_checks.was) (c.links_but.ensures ∙ all_own f.plan f.own (placed f.plan) (placed_most f.plan)) c.first_hop.ensures
