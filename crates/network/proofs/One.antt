-- The promise of each public function admits one result only. Assumes nothing.
use mathlib.Core.Path.{◌≡◌, refl}
use mathlib.Core.Bool.{Bool, cond, not, ◌&&◌}
use Prim.Native.Nat.{ℕ}
use lib.Dec.{eqb}
use Rattle.std.specs.Prelude.{List, Result, Ok, Err, get_or}
use Rattle.lists.proofs.One.{one_result, one_answer}
use Rattle.network.specs.Network.{no_link, in_range, bad_links, has, survives, bound, window, Said, planned, number, says}
use Rattle.network.specs.declared.Link.{Link}
use Rattle.network.specs.declared.Plan.{Plan}
use Rattle.network.specs.declared.Faults.{Faults}
use Rattle.network.specs.declared.Bounds.{Bounds}
use Rattle.network.specs.declared.PlanRefusal.{PlanRefusal}
use Rattle.network.specs.declared.PlanRefusal.TheVariants.{OutOfRange, BadLink, Parted}

-- ---- `plan`: the cases of its answer are told apart by what they say

unfoldable answer_of : Said → Result Bounds PlanRefusal
answer_of s = cond (eqb s.refusal 0) (Ok s.bounds) (Err (cond (eqb s.refusal 1) OutOfRange (cond (eqb s.refusal 2) BadLink Parted)))

answer_back : (r : Result Bounds PlanRefusal) → answer_of (says r) ≡ r
unfolding answer_of
answer_back (Ok b) = refl
answer_back (Err OutOfRange) = refl
answer_back (Err BadLink) = refl
answer_back (Err Parted) = refl

pub plan_one : (p : Plan) (r s : Result Bounds PlanRefusal) → says r ≡ planned p → says s ≡ planned p → r ≡ s
plan_one p = one_answer says answer_of answer_back

pub number_one : (refusal : PlanRefusal) (r s : ℕ) → r ≡ number refusal → s ≡ number refusal → r ≡ s
number_one refusal r s = one_result

-- ---- the plan's tests, sets and bounds

pub is_proper_one : (p : Plan) (r s : Bool) → r ≡ (in_range p && not (bad_links p)) → s ≡ (in_range p && not (bad_links p)) → r ≡ s
is_proper_one p r s = one_result

pub link_survives_one : (p : Plan) (f : Faults) (i : ℕ) (r s : Bool) → r ≡ survives p f i → s ≡ survives p f i → r ≡ s
link_survives_one p f i r s = one_result

pub link_of_one : (links : List Link) (i : ℕ) (r s : Link) → r ≡ get_or links i no_link → s ≡ get_or links i no_link → r ≡ s
link_of_one links i r s = one_result

pub is_in_one : (set i : ℕ) (r s : Bool) → r ≡ has set i → s ≡ has set i → r ≡ s
is_in_one set i r s = one_result

pub bound_one : (rules : ℕ) (p : Plan) (d r s : ℕ) → r ≡ bound rules p d → s ≡ bound rules p d → r ≡ s
bound_one rules p d r s = one_result

pub window_one : (rules : ℕ) (p : Plan) (d r s : ℕ) → r ≡ window rules p d → s ≡ window rules p d → r ≡ s
window_one rules p d r s = one_result
