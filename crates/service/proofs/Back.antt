-- A sound state comes back from its memory as it was, and memory that stands for a sound state is that state's memory. Assumes nothing.
use mathlib.Core.Path.{◌≡◌, refl, sym, ap, ◌∙◌, subst}
use mathlib.Core.Bool.{Bool, true, false, cond, ◌&&◌, ◌||◌}
use mathlib.Core.Logic.{◌⊎◌, inl, inr}
use mathlib.Core.List.{List, map}
use Prim.Native.Nat.{ℕ, ◌<◌}
use native.Mathlib.Omega.{arith}
use borrow.Author.Tests.{eqb-true, lt-ltb}
use lib.Dec.{ltb, leb, eqb}
use Rattle.lists.specs.Lists.{all}
use Rattle.lists.proofs.Bools.{and_left_lem, and_right, or_true_left, or_true_right, or_cases}
use Rattle.clock.specs.Clock.{largest_stamp}
use Rattle.clock.specs.declared.Reading.{Reading}
use Rattle.orders.specs.declared.Order.{Order}
use Rattle.orders.specs.declared.Order.TheVariants.{Publish, Halt, Resume, Withdraw}
use Rattle.orders.specs.Orders.{kind_of, image_of, share_of, is_share, share_fits, same_order}
use Rattle.network.specs.Network.{n}
use Rattle.network.proofs.Ranges.{ranges}
use Rattle.host.specs.declared.Held.{Held}
use Rattle.host.specs.declared.Host.{Host}
use Rattle.host.specs.State.{is_no_held, sound}
use Rattle.host.specs.State as host
use Rattle.host.proofs.Blanks.{only_held}
use Rattle.host.proofs.Facts.{SoundIs, sound_is}
use Rattle.service.specs.declared.HeldMemory.{HeldMemory}
use Rattle.service.specs.declared.HostMemory.{HostMemory}
use Rattle.service.specs.Memory.{formed, zeros, order_from, held_from, own_from, host_from, held_memory, host_memory}
use Rattle.service.specs.Inside.{unused_in, none}
use Rattle.service.specs.Bits.{by_form, from_blank}
use Rattle.service.proofs.Forms.{from_fits}
use Rattle.lists.proofs.Maps.{all_of_lem, all_parts, map_there}

-- ---- a place of a sound state's history holds an order in range, or none

abbrev pub holds : Held → Bool
holds x = share_fits x.order || is_no_held x

pub all_hold : (h : Host) → SoundIs h → all holds h.history ≡ true
all_hold h s =
    all_parts (host.fits (n h.plan)) is_no_held holds
    (λ x e. or_true_left (share_fits x.order) (is_no_held x) (and_right (leb x.stamp.0 largest_stamp && ltb x.source (n h.plan)) (share_fits x.order) e))
    (λ x. or_true_right (share_fits x.order) (is_no_held x)) h.held h.history s.fit s.history_unused

pub low : (h : Host) → SoundIs h → h.own < 8
low h s = omega (arith, s.own, (ranges h.plan s.ranges).hosts_high)

-- ---- from the state

order_back : (o : Order) → share_fits o ≡ true → order_from (kind_of o) (image_of o) (share_of o) ≡ o
order_back (Publish image share) e = ap (λ (b : Bool). cond b (Publish image share) (Publish 0 255)) e
order_back (Halt image) e = refl
order_back (Resume image) e = refl
order_back (Withdraw image) e = refl

pub held_back : (x : Held) → holds x ≡ true → held_from (held_memory x) ≡ x
held_back x e = go (or_cases (share_fits x.order) (is_no_held x) e)
  where
    go : (share_fits x.order ≡ true) ⊎ (is_no_held x ≡ true) → held_from (held_memory x) ≡ x
    go (inl f) = rw f (ap (λ (o : Order). record { stamp = x.stamp; source = x.source; order = o }) (order_back x.order f))
    go (inr f) = subst (λ (y : Held). held_from (held_memory y) ≡ y) (sym (only_held x f)) refl

pub state_back : (h : Host) → sound h ≡ true → host_from (host_memory h) ≡ h
state_back h e =
    let s = sound_is h e in
    rw (lt-ltb _ _ (low h s), map_there held_memory held_from holds held_back h.history (all_hold h s))

-- ---- from the memory

module _ (t : Reading) (image source : ℕ) where
  abbrev place : ℕ → ℕ → HeldMemory
  place kind share = record { stamp = t; image = image; source = source; kind = kind; share = share }

  abbrev There : ℕ → ℕ → Type 0
  There kind share = held_memory (held_from (place kind share)) ≡ place kind share

  published : (share : ℕ) → is_share share ≡ true → There 1 share
  published share e =
      ap (λ (b : Bool). held_memory (record { stamp = t; source = source; order = cond b (Publish image share) (Publish 0 255) })) e
      ∙ ap (λ (b : Bool). cond b (place 1 share) (record { stamp = t; image = 0; source = source; kind = 0; share = 0 })) e

  order_there : (kind share : ℕ) → formed kind share ≡ true → There kind share
  order_there kind share f = by_form kind share f There published refl refl refl

  none_there : (kind share : ℕ) → zeros kind image share ≡ true → There kind share
  none_there kind share e =
      let k : kind ≡ 0 = eqb-true kind 0 (and_left_lem (eqb kind 0) (eqb image 0) (and_left_lem (eqb kind 0 && eqb image 0) (eqb share 0) e)) in
      let i : image ≡ 0 = eqb-true image 0 (and_right (eqb kind 0) (eqb image 0) (and_left_lem (eqb kind 0 && eqb image 0) (eqb share 0) e)) in
      let s : share ≡ 0 = eqb-true share 0 (and_right (eqb kind 0 && eqb image 0) (eqb share 0) e) in
      rw (k, i, s) refl

place_there : (x : HeldMemory) → holds (held_from x) ≡ true → held_memory (held_from x) ≡ x
place_there x e = go (or_cases (share_fits (held_from x).order) (is_no_held (held_from x)) e)
  where
    go : (share_fits (held_from x).order ≡ true) ⊎ (is_no_held (held_from x) ≡ true) → held_memory (held_from x) ≡ x
    go (inl f) = order_there x.stamp x.image x.source x.kind x.share (sym (from_fits x.kind x.image x.share) ∙ f)
    go (inr f) =
        none_there x.stamp x.image x.source x.kind x.share
        (sym (from_blank x.kind x.image x.share) ∙ and_right (eqb x.stamp.0 0 && eqb x.source 0) (same_order (held_from x).order (Publish 0 0)) f)

-- and an unused place is all zero
pub only_none : (x : HeldMemory) → unused_in x ≡ true → x ≡ none
only_none x e = sym (place_there x (or_true_right (share_fits (held_from x).order) (is_no_held (held_from x)) e)) ∙ ap held_memory (only_held (held_from x) e)

pub places_there : (l : List HeldMemory) → all holds (map held_from l) ≡ true → map held_memory (map held_from l) ≡ l
places_there l e = map_there held_from held_memory (λ x. holds (held_from x)) place_there l (sym (all_of_lem held_from holds l) ∙ e)

pub own_there : (own : ℕ) → own_from own < 8 → own_from own ≡ own
own_there own = go (ltb own 8)
  where
    go : (b : Bool) → cond b own 255 < 8 → cond b own 255 ≡ own
    go true h = refl
    go false h = absurd (omega arith)

pub memory_there : (f : HostMemory) → SoundIs (host_from f) → host_memory (host_from f) ≡ f
memory_there f s = rw (places_there f.history (all_hold (host_from f) s), own_there f.own (low (host_from f) s)) refl

pub memory_back : (f : HostMemory) → sound (host_from f) ≡ true → host_memory (host_from f) ≡ f
memory_back f e = memory_there f (sound_is (host_from f) e)
