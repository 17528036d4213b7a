-- Where the numbers are in range, the hosts and links are few enough to look at. Assumes nothing.
use mathlib.Core.Path.{sym, ◌∙◌}
use Rattle.network.proofs.Ranges.{ranges}
use Rattle.network.proofs.proper.is_proper.Goals as goal

pub has_bad_link-requires : goal.has_bad_link-requires
has_bad_link-requires c = let r = ranges c.args.p (sym c.in_range.ensures ∙ c.if-in_range.true) in record { hosts_bound = r.hosts_high; link_count_bound = r.links_high }
