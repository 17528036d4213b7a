-- What a schedule that reading accepts keeps, over its own fields: what its run may rest on. Assumes nothing.
use mathlib.Core.Path.{◌≡◌, refl, sym, ap, ◌∙◌}
use mathlib.Core.Bool.{true, false, true≢false}
use mathlib.Core.List.{List}
use Prim.Native.Nat.{ℕ, ◌+◌, ◌≤◌, ◌<◌}
use native.Mathlib.Decide.{dec_lt}
use native.Mathlib.Omega.{arith}
use borrow.Author.Tests.{eq-eqb}
use lib.ListN.{length, take, get_or}
use Rattle.lists.specs.Lists.{pad}
use Rattle.lists.proofs.Listing.{length_listed}
use Rattle.orders.specs.Orders.{share_fits}
use Rattle.network.specs.Network.{n, m, δ, ε, no_link, link, survives, plan_refusal, worst, bounds, FaultSet}
use Rattle.network.specs.declared.Link.{Link}
use Rattle.network.proofs.Answers.{fine}
use Rattle.network.proofs.Ranges.{Ranges, ranges, ends}
use Rattle.schedule.specs.declared.Start.{Start}
use Rattle.schedule.specs.declared.Schedule.{Schedule}
use Rattle.std.specs.Prelude.{Result, Ok}
use Rattle.schedule.specs.declared.Refusal.{Refusal}
use Rattle.schedule.specs.Shape.{links, starts, hosts, value}
use Rattle.schedule.specs.Schedule.{link_at, plan_of, faults_of, no_start, copy_of, schedule_of}
use Rattle.schedule.specs.Calls.{read_refusal, schedule_read, says, found}
use Rattle.schedule.proofs.Verdicts.{Right}
use Rattle.schedule.proofs.Parts.{filled_long, unfilled_at, filled_first, fault_set, in_ranges, offset_at, nth, start_is, nth_by_end, nth_host, nth_share, nth_in_turn, fated_high, fated_lost, copy_in}
use Rattle.schedule.proofs.Records.{sound_shape, plan_clear, faults_in, end_in}

-- start k, and the delay of its copy over a link in a direction
abbrev pub start_of : Schedule → ℕ → Start
start_of s k = get_or s.starts k no_start

abbrev pub delay_in : Schedule → ℕ → ℕ → ℕ → ℕ
delay_in s k link direction = get_or s.delays (copy_of k link direction) 0

pub record Within (s : Schedule) : Type 0 where
  -- planning accepts the plan, and the bounds are planning's
  pub clear : plan_refusal s.plan ≡ 0
  pub bounds_are : s.bounds ≡ bounds s.plan (worst s.plan)
  -- "faulty sets within π, L and the network"
  pub faults : FaultSet s.plan s.faults
  -- "offsets below ε"
  pub offset_low : (i : ℕ) → i < n s.plan → get_or s.offsets i 0 < ε s.plan
  -- "end tick up to 4,096"
  pub end_high : s.end.0 ≤ 4096
  -- "starts in non-falling ticks up to the end", 16 at most, each with a host and an order that there are
  pub few_starts : s.start_count ≤ 16
  pub start_by_end : (k : ℕ) → k < s.start_count → (start_of s k).tick.0 ≤ s.end.0
  pub start_in_turn : (j k : ℕ) → j ≤ k → k < s.start_count → (start_of s j).tick.0 ≤ (start_of s k).tick.0
  pub start_host_lem : (k : ℕ) → k < s.start_count → (start_of s k).host < n s.plan
  pub start_share : (k : ℕ) → k < s.start_count → share_fits (start_of s k).order ≡ true
  pub start_none : (k : ℕ) → s.start_count ≤ k → start_of s k ≡ no_start
  -- "a delay at most δ", and "a lost copy only where sender, receiver or link is faulty"
  pub delay_high : (k l b : ℕ) → k < 16 → l < 12 → b < 2 → delay_in s k l b ≤ δ s.plan
  pub lost : (k l b : ℕ) → k < 16 → l < 12 → b < 2 → delay_in s k l b ≡ 0 → survives s.plan s.faults l ≡ false
  -- unused places of links are zero, and the arrays are as long as their types say
  pub link_none : (i : ℕ) → m s.plan ≤ i → link s.plan i ≡ no_link
  pub links_cleared : pad 12 no_link (take (m s.plan) s.plan.links) ≡ s.plan.links
  pub links_long : length s.plan.links ≡ 12
  pub offsets_long : length s.offsets ≡ 8
  pub starts_long : length s.starts ≡ 16
  pub delays_long : length s.delays ≡ 384

module _ (bs : List ℕ) (accepted : read_refusal bs ≡ 0) where
  abbrev link_no : ℕ → Link
  link_no i = link_at bs (value bs (1 + i))

  pub within_of : Within (schedule_of bs)
  unfolding schedule_of plan_of
  within_of =
      record {
        clear = plan_clear bs accepted;
        bounds_are = refl;
        faults = fault_set (plan_of bs) (faults_of bs) (faults_in bs accepted);
        offset_low = offset_at bs accepted;
        end_high = end_in bs accepted;
        few_starts = (sound_shape bs accepted).few_starts;
        start_by_end = λ k h. rw (start_is bs accepted k h) (nth_by_end bs accepted k h);
        start_in_turn = λ j k e h. rw (start_is bs accepted j (omega arith), start_is bs accepted k h) (nth_in_turn bs accepted j k e h);
        start_host_lem = λ k h. rw (start_is bs accepted k h) (nth_host bs accepted k h);
        start_share = λ k h. rw (start_is bs accepted k h) (nth_share bs accepted k h);
        start_none = unfilled_at 16 (starts bs) no_start (nth bs);
        delay_high = λ k l b x y z. fated_high bs accepted (copy_of k l b) (copy_in k l b x y z);
        lost = fated_lost bs accepted;
        link_none = unfilled_at 12 (links bs) no_link link_no;
        links_cleared = ap (pad 12 no_link) (filled_first 12 (links bs) no_link link_no);
        links_long = filled_long 12 (links bs) no_link link_no (sound_shape bs accepted).few_links;
        offsets_long = filled_long 8 (hosts bs) 0 _ (in_ranges bs accepted).hosts_high;
        starts_long = filled_long 16 (starts bs) no_start (nth bs) (sound_shape bs accepted).few_starts;
        delays_long = length_listed 384 _;
      }

  pub within : Within (schedule_read bs)
  within = rw (eq-eqb (read_refusal bs) 0 accepted) within_of

-- the same of what `read` returns
pub accepted_within : (bs : List ℕ) (r : Result Schedule Refusal) (s : Schedule) → Right bs r → r ≡ Ok s → Within s
accepted_within bs r s e a =
    let z : read_refusal bs ≡ 0 = sym (ap (λ (x : ℕ × ℕ). x.0) (sym (ap says a) ∙ e.0)) in
    rw (sym (ap found a) ∙ e.1) (within bs z)

-- a copy that touches nothing faulty arrives
pub not_lost : (s : Schedule) → Within s → (k l b : ℕ) → k < 16 → l < 12 → b < 2 → survives s.plan s.faults l ≡ true → 1 ≤ delay_in s k l b
not_lost s w k l b x y z e = let no : delay_in s k l b ≡ 0 → ⊥ = λ q. true≢false (sym e ∙ w.lost k l b x y z q) in omega arith

-- ---- of every number, also of a place that is not used

module _ (s : Schedule) (w : Within s) where
  pub plan_ranges : Ranges s.plan
  plan_ranges = ranges s.plan (fine s.plan w.clear).ranges

  pub any_ends : (i : ℕ) → ((link s.plan i).a < 8) × ((link s.plan i).b < 8)
  any_ends i = go (dec_lt i (m s.plan))
    where
      go : Dec (i < m s.plan) → ((link s.plan i).a < 8) × ((link s.plan i).b < 8)
      go (yes h) = let e = ends s.plan (fine s.plan w.clear).links i h in (omega (arith, plan_ranges.hosts_high), omega (arith, plan_ranges.hosts_high))
      go (no h) = rw (w.link_none i (omega arith)) (omega arith, omega arith)

  pub any_host : (k : ℕ) → (start_of s k).host < 8
  any_host k = go (dec_lt k s.start_count)
    where
      go : Dec (k < s.start_count) → (start_of s k).host < 8
      go (yes h) = omega (arith, w.start_host_lem k h, plan_ranges.hosts_high)
      go (no h) = rw (w.start_none k (omega arith)) (omega arith)

  pub any_tick : (k : ℕ) → (start_of s k).tick.0 ≤ s.end.0
  any_tick k = go (dec_lt k s.start_count)
    where
      go : Dec (k < s.start_count) → (start_of s k).tick.0 ≤ s.end.0
      go (yes h) = w.start_by_end k h
      go (no h) = rw (w.start_none k (omega arith)) (omega arith)
