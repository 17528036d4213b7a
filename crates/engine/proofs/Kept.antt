-- What every call of a run keeps of a station: what it has delivered and what it holds rise together, and each is an order that some start of the
-- schedule started. So there are no more of them than starts. Assumes nothing.
use mathlib.Core.Path.{◌≡◌, refl, sym, ap, ◌∙◌}
use mathlib.Core.Logic.{◌⊎◌, inl, inr}
use mathlib.Core.Bool.{Bool, true, false, false≢true}
use mathlib.Core.List.{List, [], ◌∷◌, ◌++◌, map}
use Prim.Native.Nat.{ℕ, ◌+◌, ◌≤◌, ◌<◌}
use native.Mathlib.Omega.{arith}
use lib.ListN.{length, length-append, length-map}
use lib.Seq.{length-take-le}
use Rattle.lists.specs.Lists.{any, insert, rising}
use Rattle.lists.specs.Members.{In, All, Distinct}
use Rattle.lists.proofs.Listed.{in_insert, member_none, none_member, all_member}
use Rattle.lists.proofs.MemberLaws.{in_left, in_right, in_append, in_map, pigeon_all}
use Rattle.lists.proofs.Order.{insert_rising, rising_tail}
use Rattle.lists.proofs.Loops.{keep_both}
use Rattle.lists.proofs.Rises.{first_before}
use Rattle.clock.specs.declared.Reading.{Reading}
use Rattle.host.specs.Make.{cleared}
use Rattle.host.specs.State.{Sized, held_of, same_name, before, sound}
use Rattle.host.specs.Tick.{due_of, waiting_of}
use Rattle.host.specs.declared.Held.{Held}
use Rattle.host.proofs.Facts.{sound_is}
use Rattle.host.proofs.Names.{name_is, is_name, before_is, before_trans, before_other, before_total, Goes}
use Rattle.schedule.specs.declared.Schedule.{Schedule}
use Rattle.engine.specs.declared.Delivery.{Delivery}
use Rattle.engine.specs.declared.Log.{Log}
use Rattle.engine.specs.declared.Station.{Station}
use Rattle.engine.specs.Parts.{list_of, log_of, order}

-- the orders that a station has delivered, and these with those that it holds
abbrev pub gone : Station → List Held
gone p = map (λ (d : Delivery). d.what) (list_of p.log)

abbrev pub taken : Station → List Held
taken p = gone p ++ held_of p.host

-- some start of the schedule started it
abbrev pub Named : Schedule → Held → Type 0
Named s x = (k : ℕ) × (k < s.start_count) × (x ≡ order s k)

pub record Kept (s : Schedule) (p : ℕ) (a : Station) : Type 0 where
  pub sound : sound a.host ≡ true
  pub sized : Sized a.host
  pub own : a.host.own ≡ p
  pub plan : a.host.plan ≡ cleared s.plan
  pub rules : a.host.rules ≡ 1
  pub set_out : a.log ≡ log_of (list_of a.log)
  pub rise : rising before (taken a) ≡ true
  pub named : (x : Held) → In x (taken a) → Named s x
  pub passed : (x : Held) → In x (gone a) → x.stamp.0 + a.host.bound ≤ a.host.last.0

-- ---- no more of them than starts

irreflexive : (x : Held) → before x x ≡ false
irreflexive x = before_other x x (is_name x x refl refl)

distinct : (l : List Held) → rising before l ≡ true → Distinct l
distinct [] r = tt
distinct (x ∷ l) r =
    (λ i. false≢true (sym (irreflexive x) ∙ all_member (before x) l (first_before before before_trans x l r) x i), distinct l (rising_tail before x l r))

module _ {A : Type 0} (f : ℕ → A) where
  distinct_map : (l : List ℕ) → Distinct (map f l) → Distinct l
  distinct_map [] d = tt
  distinct_map (k ∷ l) d = (λ i. d.0 (in_map f l k i), distinct_map l d.1)

module _ (s : Schedule) where
  numbers : (l : List Held) → ((x : Held) → In x l → Named s x) → (ks : List ℕ) × (map (order s) ks ≡ l) × All (λ k. k < s.start_count) ks
  numbers [] f = ([], refl, tt)
  numbers (x ∷ l) f =
      let k = f x (inl refl) in
      let r = numbers l (λ y i. f y (inr i)) in
      (k.0 ∷ r.0, cc (k.2, r.1), (k.1, r.2))

  few : (l : List Held) → rising before l ≡ true → ((x : Held) → In x l → Named s x) → length l ≤ s.start_count
  few l r f =
      let ks = numbers l f in
      let d : Distinct (map (order s) ks.0) = rw ks.1 (distinct l r) in
      let most : length ks.0 ≤ s.start_count = pigeon_all s.start_count ks.0 (distinct_map (order s) ks.0 d) ks.2 in
      let same : length l ≡ length ks.0 = ap length (sym ks.1) ∙ length-map ks.0 (order s) in
      omega arith

  pub room_kept : (p : ℕ) (a : Station) (u : Reading) → Kept s p a → s.start_count ≤ 16 → a.log.count + length (due_of a.host u.0) ≤ 16
  room_kept p a u k most =
      let all : length (taken a) ≤ s.start_count = few (taken a) k.rise k.named in
      let both : length (taken a) ≡ length (gone a) + length (held_of a.host) = length-append (gone a) (held_of a.host) in
      let out : length (gone a) ≡ length (list_of a.log) = length-map (list_of a.log) (λ (d : Delivery). d.what) in
      let counted : a.log.count ≡ length (list_of a.log) = ap (λ (l : Log). l.count) k.set_out in
      let split : length (due_of a.host u.0) + length (waiting_of a.host u.0) ≡ length (held_of a.host) = keep_both _ (held_of a.host) in
      omega arith

  pub held_kept : (p : ℕ) (a : Station) → Kept s p a → s.start_count ≤ 16 → a.host.held ≤ 16
  held_kept p a k most =
      let all : length (taken a) ≤ s.start_count = few (taken a) k.rise k.named in
      let both : length (taken a) ≡ length (gone a) + length (held_of a.host) = length-append (gone a) (held_of a.host) in
      let fits = (sound_is a.host k.sound).held in
      let whole : length (held_of a.host) ≡ a.host.held = length-take-le a.host.held a.host.history (omega (arith, k.sized.history)) in
      omega arith

  pub count_kept : (p : ℕ) (a : Station) → Kept s p a → s.start_count ≤ 16 → a.log.count ≤ 16
  count_kept p a k most = let r = room_kept p a a.host.last k most in omega arith

  -- ---- one order more

  module _ (p : ℕ) (a : Station) (k : Kept s p a) (x : Held) (later : (y : Held) → In y (gone a) → y.stamp.0 < x.stamp.0) (new : any (same_name x) (held_of a.host) ≡ false) where
    other_name : (y : Held) → y.stamp.0 < x.stamp.0 → (t : Bool) → same_name x y ≡ t → t ≡ false
    other_name y l true e = let same = (name_is x y e).0 in let f : ⊥ = omega arith in absurd f
    other_name y l false e = refl

    pub not_taken : any (same_name x) (taken a) ≡ false
    not_taken = member_none (same_name x) (taken a) (λ y i. go y (in_append (gone a) (held_of a.host) y i))
      where
        go : (y : Held) → In y (gone a) ⊎ In y (held_of a.host) → same_name x y ≡ false
        go y (inl i) = other_name y (later y i) (same_name x y) refl
        go y (inr i) = none_member (same_name x) (held_of a.host) new y i

    not_before : (y : Held) → y.stamp.0 < x.stamp.0 → before x y ≡ false
    not_before y l = go (before x y) refl
      where
        less : Goes x y → ⊥
        less (inl m) = omega arith
        less (inr m) = let same : x.stamp.0 ≡ y.stamp.0 = m.0 in omega arith

        go : (t : Bool) → before x y ≡ t → t ≡ false
        go true e = absurd (less (before_is x y e))
        go false e = refl

    behind : (l r : List Held) → ((y : Held) → In y l → y.stamp.0 < x.stamp.0) → insert before x (l ++ r) ≡ l ++ insert before x r
    behind [] r f = refl
    behind (y ∷ l) r f = rw (not_before y (f y (inl refl))) (ap (λ (t : List Held). y ∷ t) (behind l r (λ z i. f z (inr i))))

    pub more_rises : rising before (gone a ++ insert before x (held_of a.host)) ≡ true
    more_rises =
        ap (rising before) (sym (behind (gone a) (held_of a.host) later))
        ∙ insert_rising before (same_name x) x (λ z n b. before_total x z n b) (taken a) k.rise not_taken

    pub more_named : Named s x → (y : Held) → In y (gone a ++ insert before x (held_of a.host)) → Named s y
    more_named f y i = go (in_append (gone a) (insert before x (held_of a.host)) y i)
      where
        among : (y ≡ x) ⊎ In y (held_of a.host) → Named s y
        among (inl e) = (f.0, f.1, e ∙ f.2)
        among (inr j) = k.named y (in_right (gone a) (held_of a.host) y j)

        go : In y (gone a) ⊎ In y (insert before x (held_of a.host)) → Named s y
        go (inl j) = k.named y (in_left (gone a) (held_of a.host) y j)
        go (inr j) = among (in_insert before x (held_of a.host) y j)
