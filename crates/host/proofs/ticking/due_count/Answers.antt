-- Held orders come by rising stamp: those in front are all that are due. Assumes nothing.
use mathlib.Core.Path.{ap, ◌∙◌}
use mathlib.Core.List.{List}
use lib.ListN.{length}
use Rattle.std.proofs.Common.{map-id}
use Rattle.lists.specs.Lists.{lead}
use Rattle.lists.proofs.Leads.{lead_all}
use Rattle.host.specs.declared.Held.{Held}
use Rattle.host.specs.State.{held_of, before}
use Rattle.host.specs.Tick.{due}
use Rattle.host.proofs.Facts.{sound_is}
use Rattle.host.proofs.Fronts.{due_before}
use Rattle.host.proofs.ticking.due_count.Goals as goal

pub shared_ref_as_front-held : goal.shared_ref_as_front-held
shared_ref_as_front-held c = (sound_is _ c.requires).held

pub returns : goal.returns
returns c =
    let h = c.args.host.now in
    let p = due h.bound c.args.u.0 in
    c.due_in_front.ensures ∙ ap (λ (l : List Held). length (lead p l)) (map-id (held_of h)) ∙ ap (λ (l : List Held). length l) (lead_all before p (due_before h.bound c.args.u.0) (held_of h) (sound_is h c.requires).rise)
