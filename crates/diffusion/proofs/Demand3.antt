-- Demand 3, of the hosts of demand 2 and of planning's own bound. Assumes nothing.
use mathlib.Core.Path.{◌≡◌}
use Rattle.network.specs.Network.{plan_refusal}
use Rattle.network.specs.declared.Plan.{Plan}
use Rattle.diffusion.specs.Run.{Story, Premises, Claims}
use Rattle.diffusion.specs.Follows.{Follows}
use Rattle.diffusion.specs.Boards.{Boards}
use Rattle.diffusion.specs.Ours.{ours}
use Rattle.diffusion.proofs.Theorem.{theorem}
use Rattle.diffusion.proofs.Plans.{sturdy, timed}
use Rattle.diffusion.proofs.OurStarts.{laws}
use Rattle.diffusion.proofs.OurCopies.{first_rules}
use Rattle.diffusion.proofs.Follows.{follows}
use Rattle.diffusion.proofs.Boards.{boards}

pub demand_3 : (P : Plan) (R : Story) → plan_refusal P ≡ 0 → Premises P (ours P) R → Claims P (ours P) R
demand_3 P R e G = theorem P (ours P) R (sturdy P e) (laws P e) (first_rules P e) (timed P (sturdy P e) (ours P) R G)

pub demand_3_follows : (P : Plan) (R : Story) → plan_refusal P ≡ 0 → Premises P (ours P) R → Follows P (ours P) R
demand_3_follows P R e G = follows P (ours P) R G (demand_3 P R e G)

pub demand_3_boards : (P : Plan) (R : Story) → plan_refusal P ≡ 0 → Premises P (ours P) R → Boards P (ours P) R
demand_3_boards P R e G = boards P (sturdy P e) (ours P) (laws P e) (first_rules P e) R (timed P (sturdy P e) (ours P) R G)
