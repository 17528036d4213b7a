-- A run from bytes: what reading accepts can be played, and what is played stays in its places. Assumes nothing.
use mathlib.Core.Path.{◌≡◌, refl, sym, ap, ◌∙◌}
use mathlib.Core.Bool.{Bool, true, false, cond}
use mathlib.Core.List.{List, []}
use Prim.Native.Nat.{ℕ, zero, suc, ◌+◌, ◌<◌}
use native.Mathlib.Omega.{arith}
use borrow.Author.Tests.{eq-eqb, eqb-true, ltb-true, ltb-false}
use lib.Dec.{ltb, eqb}
use lib.ListN.{get_or, replicate, get_or-replicate}
use Rattle.lists.proofs.Listing.{get_or_listed}
use Rattle.network.specs.Network.{n, m, link}
use Rattle.network.proofs.Ranges.{ends}
use Rattle.network.proofs.Answers.{fine}
use Rattle.schedule.specs.declared.Schedule.{Schedule}
use Rattle.network.specs.declared.PlanRefusal.TheVariants.{OutOfRange, BadLink, Parted}
use Rattle.schedule.specs.declared.Refusal.{Refusal}
use Rattle.schedule.specs.declared.Refusal.TheVariants.{NotASchedule, Plan, OutsideRules}
use Rattle.schedule.specs.Schedule.{schedule_of}
use Rattle.schedule.specs.Calls.{read_refusal, numbers, answered, schedule_read, nothing}
use Rattle.schedule.proofs.Laws.{Within, within_of, within, plan_ranges, any_ends, any_host, any_tick}
use Rattle.engine.specs.declared.Log.{Log}
use Rattle.engine.specs.declared.Outcome.{Outcome}
use Rattle.engine.specs.Parts.{no_log, log_of}
use Rattle.engine.specs.Run.{station, world, outcome}
use Rattle.engine.specs.Calls.{no_outcome, outcome_of}
use Rattle.engine.specs.Inside.{Playable, InPlaces}
use Rattle.engine.proofs.Worlds.{world_places}

pub playable : (s : Schedule) → Within s → Playable s
playable s w =
    let r = plan_ranges s w in
    record {
      planned = w.clear;
      ends = any_ends s w;
      offsets = λ p h. let low = w.offset_low p h in let most = r.skew_high in omega arith;
      n_some = let two = r.hosts_low in omega arith;
      n_most = r.hosts_high;
      m_most = r.links_high;
      few = w.few_starts;
      hosts = any_host s w;
      ticks = λ k. let t = any_tick s w k in let e = w.end_high in omega arith;
      end = w.end_high;
    }

-- the ends of any place for a link are hosts of the plan: an unused one has host 0 twice
pub link_low : (s : Schedule) → Within s → (i : ℕ) → ((link s.plan i).a < n s.plan) × ((link s.plan i).b < n s.plan)
link_low s w i = go (ltb i (m s.plan)) refl
  where
    some : 0 < n s.plan
    some = (playable s w).n_some

    go : (b : Bool) → ltb i (m s.plan) ≡ b → ((link s.plan i).a < n s.plan) × ((link s.plan i).b < n s.plan)
    go true e = let f = ends s.plan (fine s.plan w.clear).links i (ltb-true _ _ e) in (f.a_host, f.b_host)
    go false e = rw (w.link_none i (ltb-false _ _ e)) (some, some)

pub get_or_blank : {A : Type 0} (n i : ℕ) (z : A) → get_or (replicate n z) i z ≡ z
get_or_blank zero i z = refl
get_or_blank (suc n) zero z = refl
get_or_blank (suc n) (suc i) z = get_or_blank n i z

-- ---- what reading answers

pub some_number : (r : Refusal) → eqb (numbers r).0 0 ≡ false
some_number NotASchedule = refl
some_number (Plan OutOfRange) = refl
some_number (Plan BadLink) = refl
some_number (Plan Parted) = refl
some_number (OutsideRules k) = refl

module _ (bs : List ℕ) where
  pub clear : (0, 0) ≡ answered bs → read_refusal bs ≡ 0
  clear e = sym (ap (λ (x : ℕ × ℕ). x.0) e)

  pub refused : (r : Refusal) → numbers r ≡ answered bs → eqb (read_refusal bs) 0 ≡ false
  refused r e = sym (ap (λ (x : ℕ × ℕ). eqb x.0 0) e) ∙ some_number r

  pub read_playable : (s : Schedule) → (0, 0) ≡ answered bs → s ≡ schedule_read bs → Playable s
  read_playable s e es = rw es (playable (schedule_read bs) (within bs (clear e)))

-- ---- in its places

pub in_places : (s : Schedule) → Playable s → InPlaces (outcome s)
unfolding outcome
in_places s z = record { hosts = z.n_most; starts = z.few; logs = λ p h. rw (get_or_listed 8 f p no_log h) (world_places s z (s.end.0 + 1) p) }
  where
    f : ℕ → Log
    f p = (station (world s (s.end.0 + 1)) p).log

none_in_places : InPlaces no_outcome
none_in_places = record { hosts = omega arith; starts = omega arith; logs = λ p h. rw (get_or-replicate 8 p (log_of []) no_log h) (omega arith) }

pub ran : (bs : List ℕ) (s : Schedule) (o : Outcome) → (0, 0) ≡ answered bs → s ≡ schedule_read bs → o ≡ outcome s → (o ≡ outcome_of bs) × InPlaces o
ran bs s o e es eo =
    let accepted : eqb (read_refusal bs) 0 ≡ true = eq-eqb _ _ (clear bs e) in
    let same : schedule_read bs ≡ schedule_of bs = ap (λ (b : Bool). cond b (schedule_of bs) nothing) accepted in
    let all : outcome (schedule_of bs) ≡ outcome_of bs = sym (ap (λ (b : Bool). cond b (outcome (schedule_of bs)) no_outcome) accepted) in
    (eo ∙ ap outcome (es ∙ same) ∙ all, rw eo (in_places s (read_playable bs s e es)))

pub not_run : (bs : List ℕ) (r : Refusal) → numbers r ≡ answered bs → (no_outcome ≡ outcome_of bs) × InPlaces no_outcome
not_run bs r e = (sym (ap (λ (b : Bool). cond b (outcome (schedule_of bs)) no_outcome) (refused bs r e)), none_in_places)

-- every outcome stays in its places
pub outcome_in_places : (bs : List ℕ) → InPlaces (outcome_of bs)
outcome_in_places bs = go (eqb (read_refusal bs) 0) refl
  where
    go : (b : Bool) → eqb (read_refusal bs) 0 ≡ b → InPlaces (cond b (outcome (schedule_of bs)) no_outcome)
    go true e = in_places (schedule_of bs) (playable (schedule_of bs) (within_of bs (eqb-true (read_refusal bs) 0 e)))
    go false e = none_in_places
