-- Every schedule that reading accepts is a run of demand 3, and its report has demand 3's claims. Assumes nothing.
use mathlib.Core.Path.{◌≡◌, sym, ap, subst, ◌∙◌}
use mathlib.Core.Bool.{Bool, cond}
use mathlib.Core.List.{List, map}
use Prim.Native.Nat.{ℕ, ◌+◌, ◌*◌, ◌≤◌, ◌<◌}
use native.Mathlib.Numerals.{add-one}
use native.Mathlib.Omega.{arith}
use borrow.Author.Tests.{eq-eqb}
use lib.ListN.{length, get_or}
use Rattle.lists.proofs.Listing.{get_or_listed}
use Rattle.network.specs.Network.{n}
use Rattle.host.specs.Tick.{due_of}
use Rattle.host.specs.declared.Host.{Host}
use Rattle.host.proofs.Facts.{sound_is}
use Rattle.schedule.specs.Schedule.{schedule_of}
use Rattle.schedule.specs.Calls.{read_refusal}
use Rattle.schedule.specs.declared.Schedule.{Schedule}
use Rattle.schedule.proofs.Laws.{Within, within_of}
use Rattle.diffusion.specs.Run.{Premises, Claims, reading, log}
use Rattle.diffusion.specs.Ours.{ours}
use Rattle.diffusion.proofs.Demand3.{demand_3}
use Rattle.diffusion.proofs.Ours.{lent_enough}
use Rattle.engine.specs.declared.Log.{Log}
use Rattle.engine.specs.declared.Outcome.{Outcome}
use Rattle.engine.specs.Parts.{no_log, list_of}
use Rattle.engine.specs.Run.{station, world, outcome}
use Rattle.engine.specs.Calls.{outcome_of, no_outcome}
use Rattle.engine.proofs.Runs.{playable}
use Rattle.engine.proofs.Sends.{world_both}
use Rattle.played.specs.Story.{story}
use Rattle.played.specs.Reported.{line_of, lines, until, Reported}
use Rattle.played.proofs.Hosts.{same_host}
use Rattle.played.proofs.Arrivals.{arrived_sent, sent_arrives}
use Rattle.played.proofs.Logs.{log_lines}

pub premises : (s : Schedule) → Within s → Premises s.plan (ours s.plan) (story s)
premises s v =
    record {
      faults = v.faults;
      close = λ p q hp hq. let low = v.offset_low p hp in omega arith;
      room = λ p t hp h.
          subst (λ (g : Host). 16 * length (due_of g (reading (story s) p t)) ≤ 512) (sym (same_host s v t p (omega arith) hp))
          (lent_enough (reading (story s) p t) (station (world s t) p).host (sound_is (station (world s t) p).host ((world_both s v t).0.hosts p hp).sound).held);
      arrives = arrived_sent s v;
      no_loss = sent_arrives s v;
    }

-- the outcome's logs
log_of_lem : (s : Schedule) → Within s → (p : ℕ) → p < n s.plan → get_or (outcome s).logs p no_log ≡ (station (world s (s.end.0 + 1)) p).log
unfolding outcome
log_of_lem s v p h = get_or_listed 8 (λ i. (station (world s (s.end.0 + 1)) i).log) p no_log (let most = (playable s v).n_most in omega arith)

pub every_report : (bs : List ℕ) → read_refusal bs ≡ 0 → Reported bs (schedule_of bs)
every_report bs accepted =
    record {
      premises = premises s v;
      claims = claims;
      logs = logs;
      agree = λ p q U sp sq hp hq.
          ap (until U) (logs p sp.host) ∙ claims.same p q U sp sq hp hq ∙ ap (until U) (sym (logs q sq.host));
    }
  where
    s : Schedule
    s = schedule_of bs

    v : Within s
    v = within_of bs accepted

    claims : Claims s.plan (ours s.plan) (story s)
    claims = demand_3 s.plan (story s) v.clear (premises s v)

    ran : outcome_of bs ≡ outcome s
    ran = ap (λ (b : Bool). cond b (outcome s) no_outcome) (eq-eqb (read_refusal bs) 0 accepted)

    logs : (p : ℕ) → p < n s.plan → lines bs p ≡ log (ours s.plan) (story s) p s.end.0
    logs p h =
        ap (λ (o : Outcome). map line_of (list_of (get_or o.logs p no_log))) ran
        ∙ ap (λ (l : Log). map line_of (list_of l)) (log_of_lem s v p h ∙ ap (λ (t : ℕ). (station (world s t) p).log) (add-one s.end.0))
        ∙ log_lines s v s.end.0 p (omega arith) h
