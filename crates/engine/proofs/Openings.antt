-- The hosts at first: one is made, and the others are like it but for their numbers. Assumes nothing.
use mathlib.Core.Path.{◌≡◌, refl, ap, ◌∙◌}
use mathlib.Core.List.{List}
use borrow.Author.Tests.{eqb-false}
use lib.ListN.{replicate}
use Rattle.std.specs.Prelude.{Result, Ok, Err}
use Rattle.std.specs.Result.{IsOk}
use Rattle.lists.specs.Lists.{listed}
use Rattle.host.specs.Make.{fresh, make_refusal, make_host}
use Rattle.host.specs.Answers.{refusal_of}
use Rattle.host.specs.declared.Host.{Host}
use Rattle.host.specs.declared.Refusal.{Refusal}
use Rattle.host.proofs.Numbers.{not_none}
use Rattle.host.proofs.Fresh.{make_runs}
use Rattle.host.proofs.Outcomes.{accepted}
use Rattle.schedule.specs.declared.Schedule.{Schedule}
use Rattle.engine.specs.declared.Station.{Station}
use Rattle.engine.specs.Parts.{no_tick}
use Rattle.engine.specs.Run.{opening}
use Rattle.engine.specs.Inside.{Playable, world_of, post_of, fresh_station}

clear : (s : Schedule) → Playable s → make_refusal s.plan 1 0 ≡ 0
clear s z = make_runs s.plan 1 0 (record { planned = z.planned; is_rules_lem = refl; own_below = z.n_some })

pub is_made : (s : Schedule) → Playable s → (r : Result Host Refusal) → refusal_of r ≡ make_refusal s.plan 1 0 → IsOk r
is_made s z (Ok h) e = refl
is_made s z (Err r) e = absurd (eqb-false _ _ (not_none r) (e ∙ clear s z))

pub opened : (s : Schedule) → Playable s → (h : Host) (l : List Station) → h ≡ make_host s.plan 1 0 → l ≡ listed 8 (fresh_station h) → l ≡ (opening s).stations
unfolding opening
opened s z h l e k =
    let first : h ≡ fresh s.plan 1 0 = e ∙ accepted (make_refusal s.plan 1 0) (fresh s.plan 1 0) _ (clear s z) in
    k ∙ ap (λ (g : Host). listed 8 (fresh_station g)) first

-- with them nothing is under way, nothing sent and nothing refused
pub opens : (s : Schedule) (l : List Station) → l ≡ (opening s).stations → world_of l (post_of (replicate 384 no_tick) 0) (replicate 16 0) ≡ opening s
unfolding opening
opens s l e = ap (λ (k : List Station). world_of k (post_of (replicate 384 no_tick) 0) (replicate 16 0)) e
