-- Each witness keeps the premises, and in it two faultless hosts have delivered other sequences; computed. Assumes nothing.
use mathlib.Core.Path.{◌≡◌, refl, sym, ap, ◌∙◌, subst}
use mathlib.Core.Logic.{inl, inr}
use mathlib.Core.Bool.{Bool, true, false, not, true≢false}
use mathlib.Core.List.{List, [], ◌∷◌, map}
use Prim.Native.Nat.{ℕ, ◌+◌, ◌<◌}
use native.Mathlib.Omega.{arith}
use borrow.Author.Tests.{leb-true, ltb-true, not-true}
use lib.Count.{ones}
use lib.Dec.{leb, ltb}
use lib.ListN.{drop}
use Rattle.lists.specs.Lists.{all, any, listed}
use Rattle.lists.specs.Members.{In, All}
use Rattle.lists.specs.Tests.{all_of, any_of}
use Rattle.lists.specs.Searches.{some, each, largest, least}
use Rattle.lists.proofs.Listed.{all_member}
use Rattle.lists.proofs.MemberLaws.{in_all}
use Rattle.lists.proofs.TestLaws.{all_each}
use Rattle.orders.specs.Orders.{kind_of, image_of}
use Rattle.orders.specs.declared.Order.TheVariants.{Publish, Halt, Resume, Withdraw}
use Rattle.network.specs.Network.{n, in_range, same, bad_link, bad_links, has, survives, via, within, distance, farthest, diameter, worst_links, worst, bound, window, plan_tests, plan_refusal, Survivor}
use Rattle.host.specs.State.{frame_tests, history_tests}
use Rattle.board.specs.Board as board
use Rattle.board.specs.Board.{images_after, board_tests}
use Rattle.host.specs.OwnLinks.{set_of}
use Rattle.host.specs.Make.{fresh}
use Rattle.host.specs.Start.{start_tests}
use Rattle.host.specs.Receive.{receive_tests}
use Rattle.host.specs.Tick.{tick_tests}
use Rattle.diffusion.specs.Hosts.{Carried}
use Rattle.diffusion.specs.Run.{reading, calls_at, run, Some, before, delivers, log, Starts-at, Refuses-at, Arrives, Premises, Claims}
use Rattle.diffusion.specs.Ours.{called, ours}
use Rattle.diffusion.specs.Boards.{board_by, offers, Full, Frees, None}
use Rattle.diffusion.specs.Example.{begun, two_hosts}
use Rattle.diffusion.specs.Variants.{starts_other, sends_other, idle}
use Rattle.diffusion.specs.Witnesses.{Witness, sequence, Parts, soon, twice, witnesses, other_run, others, senders, forged_run, idle_run, idlers, tight_run, roomless, full_board, full_orders}
use Rattle.diffusion.proofs.Compared.{same_entry, same_log, same_log_lem, tells, nobody}
use Rattle.diffusion.proofs.Decided.{implies, same_copy, hands, sent_by, sent, each_handed, joins, sent_at, fault_tests, close_test, room_test, was_sent, arrives_test, is_handed, unfaulty, kept, no_loss_test, keeps_others, keeps_premises, decided, roomy, keeps, within_premises, within_but}

-- host p is faultless and has reached the reading
stand_tests : Witness → ℕ → List Bool
stand_tests w p = ltb p (n w.network) ∷ not (has w.run.faults.hosts p) ∷ leb w.until (reading w.run p w.run.end) ∷ []

part_tests : Witness → List Bool
part_tests w =
    keeps w.network w.first w.call w.run
    ∷ all_of (stand_tests w w.one)
    ∷ all_of (stand_tests w w.other)
    ∷ not (same_log (sequence w w.one) (sequence w w.other))
    ∷ []

parts : (w : Witness) → all_of (part_tests w) ≡ true → Parts w
unfolding part_tests stand_tests
parts w e =
    let t = all_each (part_tests w) e in
    let a = all_each (stand_tests w w.one) t.1.0 in
    let b = all_each (stand_tests w w.other) t.1.1.0 in
    record {
      premises = within_premises w.network w.first w.call w.run t.0;
      faultless = record { host = ltb-true _ _ a.0; well = not-true _ a.1.0 };
      other_faultless = record { host = ltb-true _ _ b.0; well = not-true _ b.1.0 };
      reached = leb-true _ _ a.1.1.0;
      other_reached = leb-true _ _ b.1.1.0;
      part = λ q. true≢false (sym (subst (λ m. same_log (sequence w w.one) m ≡ true) q (same_log_lem (sequence w w.one))) ∙ not-true _ t.1.1.1.0);
    }

-- what is found by computing
record Computed : Type 0 where
  parting : all (λ w. all_of (part_tests w)) witnesses ≡ true
  networks : map (λ w. plan_refusal w.network) witnesses ≡ 0 ∷ 0 ∷ 0 ∷ 0 ∷ 0 ∷ 0 ∷ 0 ∷ 3 ∷ []
  plans : map (λ w. plan_refusal (w.first 0).plan) witnesses ≡ 0 ∷ 0 ∷ 0 ∷ 0 ∷ 0 ∷ 0 ∷ 0 ∷ 3 ∷ []
  two : sequence twice 2 ≡ (5, soon) ∷ (6, soon) ∷ []
  other_keeps : keeps (two_hosts 0) (fresh (two_hosts 0) 1) starts_other other_run ≡ true
  other_starts : Starts-at others other_run 0 0 soon
  other_delivers : delivers others other_run 1 4 ≡ begun 0 (Resume 7) ∷ []
  sent_keeps : keeps (two_hosts 0) (fresh (two_hosts 0) 1) sends_other other_run ≡ true
  sent_delivers : delivers senders other_run 1 4 ≡ begun 0 (Resume 7) ∷ []
  untold : each 2 (λ p. each 4 (λ t. not (any (tells (Resume 7)) (calls_at other_run p t)))) ≡ true
  forged_keeps : keeps_others (two_hosts 0) (ours (two_hosts 0)) forged_run roomy ≡ true
  forged_delivers : delivers (ours (two_hosts 0)) forged_run 1 4 ≡ soon ∷ []
  forged_untold : each 2 (λ p. each 4 (λ t. not (any (tells (Halt 7)) (calls_at forged_run p t)))) ≡ true
  idle_keeps : keeps (two_hosts 0) (fresh (two_hosts 0) 1) idle idle_run ≡ true
  idle_refuses : Refuses-at idlers idle_run 0 0 14
  room_keeps : keeps_premises (two_hosts 0) roomless tight_run (λ u room s. true) ≡ true
  room_refuses : roomless.refusal 4 0 (before roomless tight_run 1 4) ≡ 22
  full : Full full_board 7
  published : offers (board_by full_board full_orders) 7 ≡ true
  bound_is : bound 1 (two_hosts 0) (worst (two_hosts 0)) ≡ 4
  well : (has 0 0 ≡ false) × (has 0 1 ≡ false)

computed : Computed
unfolding tells same_log same_entry listed board_by board.sound images_after board_tests part_tests stand_tests keeps roomy keeps_others keeps_premises implies same_copy hands sent_by sent each_handed joins sent_at fault_tests close_test room_test was_sent arrives_test is_handed unfaulty kept no_loss_test Some log before run frame_tests history_tests set_of start_tests receive_tests tick_tests all_of any_of some each largest least has in_range same bad_link bad_links survives via within distance farthest diameter worst_links worst bound window plan_tests ones
computed =
    record {
      parting = refl;
      networks = refl;
      plans = refl;
      two = refl;
      other_keeps = refl;
      other_starts = inl (refl, tt);
      other_delivers = refl;
      sent_keeps = refl;
      sent_delivers = refl;
      untold = refl;
      forged_keeps = refl;
      forged_delivers = refl;
      forged_untold = refl;
      idle_keeps = refl;
      idle_refuses = inl refl;
      room_keeps = refl;
      room_refuses = refl;
      full = (refl, refl);
      published = refl;
      bound_is = refl;
      well = (refl, refl);
    }

pub all_part : All Parts witnesses
all_part = in_all Parts witnesses (λ w i. parts w (all_member (λ (v : Witness). all_of (part_tests v)) witnesses computed.parting w i))

-- planning accepts the network, and the plan that the hosts were made by, of each witness but the last
pub networks_accepted : map (λ w. plan_refusal w.network) witnesses ≡ 0 ∷ 0 ∷ 0 ∷ 0 ∷ 0 ∷ 0 ∷ 0 ∷ 3 ∷ []
networks_accepted = computed.networks

pub plans_accepted : map (λ w. plan_refusal (w.first 0).plan) witnesses ≡ 0 ∷ 0 ∷ 0 ∷ 0 ∷ 0 ∷ 0 ∷ 0 ∷ 3 ∷ []
plans_accepted = computed.plans

-- accepting at T + Δ, a host delivers one order at two readings
pub delivers_twice : sequence twice 2 ≡ (5, soon) ∷ (6, soon) ∷ []
delivers_twice = computed.two

-- host 1 delivers at reading 4 not what host 0 was told to start
pub held_otherwise : Premises (two_hosts 0) others other_run × (Claims (two_hosts 0) others other_run → ⊥)
held_otherwise = (
  within_premises (two_hosts 0) (fresh (two_hosts 0) 1) starts_other other_run computed.other_keeps,
  λ C. no_halt (C.delivered 0 1 0 4 soon (fine 0 (omega arith) computed.well.0) (fine 1 (omega arith) computed.well.1) computed.other_starts (omega arith) due),
)
  where
    fine : (p : ℕ) → p < 2 → has 0 p ≡ false → Survivor (two_hosts 0) other_run.faults p
    fine p h e = record { host = h; well = e }

    due : 4 ≡ 0 + bound 1 (two_hosts 0) (worst (two_hosts 0))
    due = ap (λ (k : ℕ). 0 + k) (sym computed.bound_is)

    other : In soon (begun 0 (Resume 7) ∷ []) → ⊥
    other (inl e) = let kinds = ap (λ (x : Carried). kind_of x.order) e in omega arith
    other (inr j) = j

    no_halt : In soon (delivers others other_run 1 4) → ⊥
    no_halt i = other (subst (In soon) computed.other_delivers i)

-- host 1 delivers at reading 4 what no host was told to start, since another order is sent than the one that is held ..
pub unstarted_fails : Premises (two_hosts 0) senders other_run × (Claims (two_hosts 0) senders other_run → ⊥)
unstarted_fails = (
  within_premises (two_hosts 0) (fresh (two_hosts 0) 1) sends_other other_run computed.sent_keeps,
  λ C. nobody senders other_run (begun 0 (Resume 7)) computed.untold (C.started 1 4 (begun 0 (Resume 7)) (omega arith) (subst (In (begun 0 (Resume 7))) (sym computed.sent_delivers) (inl refl))),
)

-- .. or since a copy arrives that no host sent, though all else that is taken for granted holds
pub forged_fails : (Arrives (two_hosts 0) (ours (two_hosts 0)) forged_run → Premises (two_hosts 0) (ours (two_hosts 0)) forged_run)
    × (Claims (two_hosts 0) (ours (two_hosts 0)) forged_run → ⊥)
forged_fails = (
  within_but (two_hosts 0) (fresh (two_hosts 0) 1) called forged_run computed.forged_keeps,
  λ C. nobody (ours (two_hosts 0)) forged_run soon computed.forged_untold (C.started 1 4 soon (omega arith) (subst (In soon) (sym computed.forged_delivers) (inl refl))),
)

-- host 0 refuses 14 with an empty history
pub idle_fails : Premises (two_hosts 0) idlers idle_run × (Claims (two_hosts 0) idlers idle_run → ⊥)
idle_fails =
    (within_premises (two_hosts 0) (fresh (two_hosts 0) 1) idle idle_run computed.idle_keeps, λ C. C.never_14 0 0 (omega arith) computed.idle_refuses)

-- host 1's tick at reading 4 is refused 22
pub room_fails : Premises (two_hosts 0) roomless tight_run × (Claims (two_hosts 0) roomless tight_run → ⊥)
room_fails = (
  decided (two_hosts 0) roomless tight_run (λ u room s. true) (λ u room s e. tt) computed.room_keeps,
  λ C. short (sym computed.room_refuses ∙ C.tick_answers 1 4 (omega arith) (omega arith) (omega arith)),
)
  where
    short : ◌≡◌ {A = ℕ} 22 0 → ⊥
    short e = omega arith

-- a halt that had no room does not keep its image from being offered, though no resume or withdraw of it follows
pub exception_needed : Full full_board 7 × (offers (board_by full_board full_orders) 7 ≡ true) × None (Frees 7) (drop 1 full_orders)
exception_needed = (computed.full, computed.published, kept_off)
  where
    other_image : Frees 7 (begun 1 (Withdraw 10)) → ⊥
    other_image (inl q) = let images = ap image_of q in omega arith
    other_image (inr q) = let images = ap image_of q in omega arith

    other_kind : Frees 7 (begun 2 (Publish 7 50)) → ⊥
    other_kind (inl q) = let kinds = ap kind_of q in omega arith
    other_kind (inr q) = let kinds = ap kind_of q in omega arith

    kept_off : None (Frees 7) (drop 1 full_orders)
    kept_off y (inl e) f = other_image (subst (Frees 7) e f)
    kept_off y (inr (inl e)) f = other_kind (subst (Frees 7) e f)
    kept_off y (inr (inr i)) f = absurd i
