-- A loop over the links that a plan has, and not over its other places. Assumes nothing.
use mathlib.Core.Path.{◌≡◌}
use Prim.Native.Nat.{ℕ, ◌≤◌, ◌<◌}
use native.Mathlib.Omega.{arith}
use lib.ListN.{length, take, get_or}
use lib.Seq.{get_or-take, length-take-le}
use Rattle.network.specs.Network.{m, no_link, link}
use Rattle.network.specs.declared.Plan.{Plan}

module _ (p : Plan) (fits : m p ≤ length p.links) where
  pub all_links : length (take (m p) p.links) ≡ m p
  all_links = length-take-le (m p) p.links fits

  pub is_place : (i : ℕ) → i < length (take (m p) p.links) → i < m p
  is_place i h = rw all_links at h

  pub is_link : (i : ℕ) → i < length (take (m p) p.links) → get_or (take (m p) p.links) i no_link ≡ link p i
  is_link i h = get_or-take (m p) p.links i no_link (is_place i h)

  -- after the last turn
  pub past_links : (i : ℕ) → i ≤ length (take (m p) p.links) → length (take (m p) p.links) ≤ i → i ≡ m p
  past_links i h l = let e = all_links in omega (arith, e)
