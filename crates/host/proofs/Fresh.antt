-- The making of a host: what planning's answer says of it, and that a made host is sound and has the given plan's network. Assumes nothing.
use mathlib.Core.Path.{◌≡◌, refl, sym, ap, ap₂, subst, ◌∙◌}
use mathlib.Core.Bool.{Bool, true, false, not, cond}
use mathlib.Core.List.{[], ◌∷◌}
use Prim.Native.Nat.{ℕ, ◌+◌, ◌*◌, ◌≤◌, ◌<◌, zero-le}
use native.Mathlib.Nat.{min-le_left, lt_of_lt_of_le, le_of_lt}
use borrow.Author.Tests.{eqb-true, not-false, leb-false, lt-leb}
use lib.Dec.{leb, eqb}
use lib.ListN.{length, length-take}
use lib.Seq.{get_or-take}
use Rattle.lists.specs.Tests.{all_of, any_of, first_of}
use Rattle.lists.proofs.TestLaws.{first_join, none_pass, pass_none}
use Rattle.lists.proofs.SearchLaws.{some_same}
use Rattle.lists.proofs.Places.{get_or_pad, drop_pad}
use Rattle.orders.specs.Rules.{is_rules}
use Rattle.network.specs.Network.{no_link}
use Rattle.network.specs.Network as net
use Rattle.network.specs.declared.Link.{Link}
use Rattle.network.specs.declared.Plan.{Plan}
use Rattle.network.specs.declared.Bounds.{Bounds}
use Rattle.network.specs.declared.PlanRefusal.{PlanRefusal}
use Rattle.network.specs.declared.PlanRefusal.TheVariants.{OutOfRange, BadLink, Parted}
use Rattle.std.specs.Prelude.{Result, Ok, Err}
use Rattle.network.proofs.Answers.{fine}
use Rattle.network.proofs.Limits.{d_low, d_high}
use Rattle.host.specs.declared.Host.{Host}
use Rattle.host.specs.declared.Refusal.{Refusal}
use Rattle.host.proofs.Numbers.{kept}
use Rattle.host.specs.State.{is_no_link, links_of, sound, Sized}
use Rattle.host.specs.Answers.{number, of_plan, refusal_of, unless}
use Rattle.host.specs.Make.{made, make_tests, make_refusal, cleared, fresh, no_host, make_host}
use Rattle.host.proofs.Facts.{SoundIs, is_sound}

planned_refusal : (p : Plan) → (net.planned p).refusal ≡ net.plan_refusal p
planned_refusal p = go (eqb (net.plan_refusal p) 0) refl
  where
    go : (t : Bool) → eqb (net.plan_refusal p) 0 ≡ t → (cond t (record { refusal = 0; bounds = net.bounds p (net.worst p) }) (net.refused (net.plan_refusal p))).refusal ≡ net.plan_refusal p
    go true e = sym (eqb-true (net.plan_refusal p) 0 e)
    go false e = refl

pub plan_refusal_lem : (p : Plan) (a : Result Bounds PlanRefusal) → net.says a ≡ net.planned p → net.plan_refusal p ≡ (net.says a).refusal
plan_refusal_lem p a e = sym (planned_refusal p) ∙ sym (ap (λ (s : net.Said). s.refusal) e)

pub plan_bounds : (p : Plan) (b : Bounds) → net.says (Ok b) ≡ net.planned p → b ≡ net.bounds p (net.worst p)
plan_bounds p b e = ap (λ (s : net.Said). s.bounds) (e ∙ ap (λ (k : ℕ). cond (eqb k 0) (record { refusal = 0; bounds = net.bounds p (net.worst p) }) (net.refused k)) (plan_refusal_lem p (Ok b) e))

-- planning's refusal is the making's; where there is none, 23 and 15 are asked
pub make_refusal_lem : (p : Plan) (rules own k : ℕ) → net.plan_refusal p ≡ k
    → make_refusal p rules own ≡ cond (eqb k 0) (first_of ((23, not (is_rules rules)) ∷ (15, leb (net.n p) own) ∷ [])) k
unfolding make_tests net.plan_tests
make_refusal_lem p rules own k e =
    first_join (net.plan_tests p) ((23, not (is_rules rules)) ∷ (15, leb (net.n p) own) ∷ []) refl
    ∙ ap (λ (j : ℕ). cond (eqb j 0) (first_of ((23, not (is_rules rules)) ∷ (15, leb (net.n p) own) ∷ [])) j) e

pub plan_first : (p : Plan) (rules own : ℕ) (q : PlanRefusal) → net.says (Err q) ≡ net.planned p → number (of_plan q) ≡ make_refusal p rules own
plan_first p rules own q e = sym (make_refusal_lem p rules own (net.number q) (plan_refusal_lem p (Err q) e) ∙ go q)
  where
    go : (q : PlanRefusal) → cond (eqb (net.number q) 0) (first_of ((23, not (is_rules rules)) ∷ (15, leb (net.n p) own) ∷ [])) (net.number q) ≡ number (of_plan q)
    go OutOfRange = refl
    go BadLink = refl
    go Parted = refl

-- what a refused making says
pub refused_making : (p : Plan) (rules own : ℕ) (r : Refusal) (a : Result Host Refusal) → a ≡ Err r → number r ≡ make_refusal p rules own
    → record { host_value : made a ≡ make_host p rules own; answer_value : refusal_of a ≡ make_refusal p rules own }
refused_making p rules own r a e n = record { host_value = ap made e ∙ kept r _ _ no_host n; answer_value = ap refusal_of e ∙ n }

-- each rule set's Δ
pub bound_rules : (p : Plan) (d rules : ℕ) → cond (eqb rules 1) (net.bound 1 p d) (net.bound 2 p d) ≡ net.bound rules p d
unfolding net.bound
bound_rules p d rules = go (eqb rules 1)
  where
    go : (t : Bool) → cond t (net.bound 1 p d) (net.bound 2 p d) ≡ net.π p * cond t (net.δ p) (net.δ p + net.ε p) + d * net.δ p + net.ε p
    go true = refl
    go false = refl

-- ---- a making that is not refused

pub record MakeIs (p : Plan) (rules own : ℕ) : Type 0 where
  pub planned : net.plan_refusal p ≡ 0
  pub is_rules_lem : is_rules rules ≡ true
  pub own_below : own < net.n p

pub make_is : (p : Plan) (rules own : ℕ) → make_refusal p rules own ≡ 0 → MakeIs p rules own
unfolding make_tests net.plan_tests
make_is p rules own e =
    let t = none_pass (make_tests p rules own) refl e in
    record {
      planned = pass_none (net.plan_tests p) (t.0, (t.1.0, (t.1.1.0, tt)));
      is_rules_lem = not-false _ t.1.1.1.0;
      own_below = leb-false _ _ t.1.1.1.1.0;
    }

pub make_runs : (p : Plan) (rules own : ℕ) → MakeIs p rules own → make_refusal p rules own ≡ 0
make_runs p rules own k = make_refusal_lem p rules own 0 k.planned ∙ pass_none ((23, not (is_rules rules)) ∷ (15, leb (net.n p) own) ∷ []) (ap not k.is_rules_lem, (lt-leb _ _ k.own_below, tt))

-- ---- the made host's network is the given plan's

-- its links; its numbers are the plan's own
pub cleared_link : (p : Plan) (i : ℕ) → i < net.m p → net.link (cleared p) i ≡ net.link p i
cleared_link p i h = get_or_pad 12 no_link (links_of p) i ∙ get_or-take (net.m p) p.links i no_link h

pub cleared_range : (p : Plan) → net.in_range (cleared p) ≡ net.in_range p
unfolding net.in_range
cleared_range p = refl

pub cleared_links : (p : Plan) → net.bad_links (cleared p) ≡ net.bad_links p
unfolding net.bad_links net.bad_link net.same
cleared_links p = some_same (net.m p) (net.bad_link (cleared p)) (net.bad_link p) bad
  where
    same : (i j : ℕ) → i < net.m p → j < net.m p → net.same (cleared p) i j ≡ net.same p i j
    same i j h g = ap₂ (λ (x y : Link). all_of (eqb x.a y.a ∷ eqb x.b y.b ∷ [])) (cleared_link p i h) (cleared_link p j g)

    bad : (i : ℕ) → i < net.m p → net.bad_link (cleared p) i ≡ net.bad_link p i
    bad i h =
        ap₂ (λ (x : Link) (t : Bool). any_of (leb (net.n p) x.a ∷ leb (net.n p) x.b ∷ leb x.b x.a ∷ t ∷ [])) (cleared_link p i h)
        (some_same i (net.same (cleared p) i) (net.same p i) (λ j l. same i j h (lt_of_lt_of_le l (le_of_lt h))))

pub fresh_sound : (p : Plan) (rules own : ℕ) → MakeIs p rules own → SoundIs (fresh p rules own)
unfolding net.bound
fresh_sound p rules own k =
    let f = fine p k.planned in
    record {
      ranges = cleared_range p ∙ f.ranges;
      links = cleared_links p ∙ f.links;
      d_low = d_low p k.planned;
      d_high = d_high p k.planned;
      formula = refl;
      held = zero-le;
      fit = refl;
      rise = refl;
      own_started_lem = refl;
      started = zero-le;
      starts_rise = refl;
      starts_passed = refl;
      rules = k.is_rules_lem;
      own = k.own_below;
      links_unused = drop_pad is_no_link no_link 12 (links_of p) (net.m p) refl (subst (λ (i : ℕ). i ≤ net.m p) (sym (length-take (net.m p) p.links)) (min-le_left (net.m p) (length p.links)));
      starts_unused = refl;
      history_unused = refl;
    }

-- a made host is sound, and its arrays have their lengths
pub make_sound : (p : Plan) (rules own : ℕ) → make_refusal p rules own ≡ 0 → sound (make_host p rules own) ≡ true
make_sound p rules own e =
    subst (λ (h : Host). sound h ≡ true) (sym (ap (λ (k : ℕ). unless k (fresh p rules own) no_host) e)) (is_sound (fresh p rules own) (fresh_sound p rules own (make_is p rules own e)))

pub fresh_sized : (p : Plan) (rules own : ℕ) → Sized (fresh p rules own)
fresh_sized p rules own = record { starts = refl; history = refl }
