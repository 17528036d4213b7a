-- 01's own case is a run within the premises in which all three hosts deliver, so that demand 3 is not empty: computed. Assumes nothing.
use mathlib.Core.Path.{◌≡◌, refl}
use mathlib.Core.Bool.{true}
use mathlib.Core.List.{[], ◌∷◌, map}
use lib.Count.{ones}
use Rattle.lists.specs.Tests.{all_of, any_of}
use Rattle.lists.specs.Searches.{some, each, largest, least}
use Rattle.network.specs.Network.{in_range, same, bad_link, bad_links, has, survives, via, within, distance, farthest, diameter, worst_links, worst, bound, window, plan_tests, plan_refusal}
use Rattle.host.specs.State.{frame_tests, history_tests}
use Rattle.board.specs.Board as board
use Rattle.board.specs.Board.{images_after, board_tests}
use Rattle.board.specs.declared.Stand.TheVariants.{Offered, Halted}
use Rattle.host.specs.OwnLinks.{set_of}
use Rattle.host.specs.Make.{fresh}
use Rattle.host.specs.Start.{start_tests}
use Rattle.host.specs.Receive.{receive_tests}
use Rattle.host.specs.Tick.{tick_tests}
use Rattle.diffusion.specs.Run.{run, before, log, Premises, Claims}
use Rattle.diffusion.specs.Ours.{called, ours}
use Rattle.diffusion.specs.Boards.{board_by, board_of}
use Rattle.diffusion.specs.Example.{case_plan, case_story, halt, seven}
use Rattle.diffusion.proofs.Decided.{implies, same_copy, hands, sent_by, sent, each_handed, joins, sent_at, fault_tests, close_test, room_test, was_sent, arrives_test, is_handed, unfaulty, kept, no_loss_test, keeps_others, keeps_premises, roomy, keeps, within_premises}
use Rattle.diffusion.proofs.Demand3.{demand_3}

-- planning accepts the network, the run keeps the premises, and these are the logs of hosts 0, 1 and 2
case_computed : (plan_refusal case_plan ≡ 0) × (keeps case_plan (fresh case_plan 1) called case_story ≡ true)
    × (map (λ p. log (ours case_plan) case_story p 40) (0 ∷ 1 ∷ 2 ∷ []) ≡ ((28, halt) ∷ []) ∷ ((28, halt) ∷ []) ∷ ((28, halt) ∷ []) ∷ [])
    × (map (λ p. board_of (ours case_plan) case_story (seven (Offered 50)) p 40) (0 ∷ 1 ∷ 2 ∷ []) ≡ seven (Halted 50) ∷ seven (Halted 50) ∷ seven (Halted 50) ∷ [])
unfolding board_by board.sound images_after board_tests keeps roomy keeps_others keeps_premises implies same_copy hands sent_by sent each_handed joins sent_at fault_tests close_test room_test was_sent arrives_test is_handed unfaulty kept no_loss_test log before run frame_tests history_tests set_of start_tests receive_tests tick_tests all_of any_of some each largest least has in_range same bad_link bad_links survives via within distance farthest diameter worst_links worst bound window plan_tests ones
case_computed = (refl, refl, refl, refl)

pub case_premises : Premises case_plan (ours case_plan) case_story
case_premises = within_premises case_plan (fresh case_plan 1) called case_story case_computed.1

pub case_logs : map (λ p. log (ours case_plan) case_story p 40) (0 ∷ 1 ∷ 2 ∷ []) ≡ ((28, halt) ∷ []) ∷ ((28, halt) ∷ []) ∷ ((28, halt) ∷ []) ∷ []
case_logs = case_computed.2

-- and their boards, from one that offered the image
pub case_boards : map (λ p. board_of (ours case_plan) case_story (seven (Offered 50)) p 40) (0 ∷ 1 ∷ 2 ∷ []) ≡ seven (Halted 50) ∷ seven (Halted 50) ∷ seven (Halted 50) ∷ []
case_boards = case_computed.3

pub case_claims : Claims case_plan (ours case_plan) case_story
case_claims = demand_3 case_plan case_story case_computed.0 case_premises
