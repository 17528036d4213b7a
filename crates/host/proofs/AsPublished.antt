-- A call that none of the build's own refusals meets does as the published task. Assumes nothing.
use mathlib.Core.Path.{◌≡◌, refl, sym, ap, subst, ◌∙◌}
use mathlib.Core.Logic.{◌⊎◌, inl, inr}
use mathlib.Core.Bool.{Bool, true, false, not, cond, ◌&&◌, true≢false, false≢true}
use mathlib.Core.List.{List, [], ◌∷◌, map}
use Prim.Native.Nat.{ℕ, ◌+◌, ◌*◌, ◌≤◌, ◌<◌}
use native.Mathlib.Nat.{lt_of_not-le, eq-or-lt_of_le}
use native.Mathlib.Omega.{arith}
use borrow.Author.Tests.{leb-true, leb-false, lt-ltb, ltb-true, eqb-false, eq-eqb, ne_eqb, not-true}
use lib.Dec.{leb, ltb, eqb}
use Rattle.lists.specs.Tests.{first_of}
use Rattle.lists.specs.Lists.{any, keep}
use Rattle.lists.specs.Members.{In}
use Rattle.lists.proofs.Bools.{and_left_lem, and_right}
use Rattle.lists.proofs.MemberLaws.{keep_in}
use Rattle.lists.proofs.TestLaws.{Found, found, first_among}
use Rattle.lists.proofs.Listed.{some_member, none_member}
use Rattle.clock.specs.declared.Reading.{Reading}
use Rattle.orders.specs.declared.Order.{Order}
use Rattle.network.specs.Network.{m, δ, ε, has}
use Rattle.network.specs.declared.Plan.{Plan}
use Rattle.network.proofs.Bits.{has_none}
use Rattle.host.specs.declared.Held.{Held}
use Rattle.host.specs.declared.Host.{Host}
use Rattle.host.specs.State.{held_of}
use Rattle.host.specs.Answers.{unless, Said, said_by}
use Rattle.host.specs.OwnLinks.{set_of, ends, ends_but, own_links, other_links}
use Rattle.host.specs.Start.{start_of, start_tests, start_refusal, start_host}
use Rattle.host.specs.Receive.{relay_links, relay_hop, early, late, same_held, receive_tests, receive_refusal, receive_says, after_receive, receive_host}
use Rattle.host.specs.Tick.{tick_tests, tick_refusal}
use Rattle.host.specs.Calls.{ticks}
use Rattle.host.specs.Published.{Protocol, first, second, TooEarly, TooLate, Line, too_early, too_late, late_message, deja_vu, relays, Relay, Sends, Leaves, start_hop, relayed_hop, Both, Runs, history_of, Adjacent, is_own, number_of, AsStart, AsRelay, AsDelivery, AsDeliveries}
use Rattle.host.proofs.Sets.{set_has}
use Rattle.host.proofs.Names.{same_held_lem, held_same}
use Rattle.host.proofs.Outcomes.{held_is, OneMore, start_more, receive_more, due_in_lem, in_due, waiting_in_lem, in_waiting}

-- ---- links and hops

-- a set of links, and who is in it
in_set : (k : ℕ) (f : ℕ → Bool) (set : ℕ) → set ≡ set_of k f → (l : ℕ) → Both (has set l ≡ true) ((l < k) × (f l ≡ true))
in_set k f set e l =
    let is : has set l ≡ (ltb l k && f l) = ap (λ (s : ℕ). has s l) e ∙ set_has k f l in
    (λ i. let t = sym is ∙ i in (ltb-true _ _ (and_left_lem (ltb l k) (f l) t), and_right (ltb l k) (f l) t), λ t. is ∙ (simp (lt-ltb _ _ t.0, t.1)))

is_second : Protocol → Bool
is_second first = false
is_second second = true

rules_are : (q : Protocol) (rules : ℕ) → Runs q rules → eqb rules 2 ≡ is_second q
unfolding is_second
rules_are first rules r = ap (λ (k : ℕ). eqb k 2) r
rules_are second rules r = ap (λ (k : ℕ). eqb k 2) r

start_hop_lem : (q : Protocol) → cond (is_second q) 1 0 ≡ start_hop q
unfolding is_second
start_hop_lem first = refl
start_hop_lem second = refl

relay_hop_lem : (q : Protocol) (h : ℕ) → cond (is_second q) (h + 1) 0 ≡ relayed_hop q h
unfolding is_second
relay_hop_lem first h = refl
relay_hop_lem second h = refl

-- a number of the table that is not the build's own
published : (cs : List (ℕ × Bool)) → is_own (first_of cs) ≡ false → In (first_of cs) (keep (λ k. not (is_own k)) (0 ∷ map (λ (c : ℕ × Bool). c.0) cs))
published cs own = keep_in (λ k. not (is_own k)) (0 ∷ map (λ (c : ℕ × Bool). c.0) cs) (first_of cs) (first_among cs) (ap not own)

-- one order more, as a set
one_more : (x : Held) (old new : List Held) → OneMore x old new → (y : Held) → Both (In y new) ((y ≡ x) ⊎ In y old)
one_more x old new k y = (k.only y, go)
  where
    go : (y ≡ x) ⊎ In y old → In y new
    go (inl e) = subst (λ (t : Held). In t new) (sym e) k.has_new
    go (inr i) = k.has_old y i

-- ---- start

pub as_start : (q : Protocol) (h : Host) (u : Reading) (o : Order) → Runs q h.rules → is_own (start_refusal h u.0 o) ≡ false → AsStart q h u o
unfolding start_tests
as_start q h u o r own = go (published (start_tests h u.0 o) own)
  where
    go : In (start_refusal h u.0 o) (0 ∷ []) → AsStart q h u o
    go (inr i) = absurd i
    go (inl e) =
        record {
          history = one_more (start_of h u o) (held_of h) (held_of (start_host h u o)) (start_more h u o e);
          links = in_set (m h.plan) (ends h.plan h.own) _ (ap (λ (k : ℕ). (said_by k (own_links h.plan h.own) (cond (eqb h.rules 2) 1 0)).links) e);
          hop =
              ap (λ (k : ℕ). (said_by k (own_links h.plan h.own) (cond (eqb h.rules 2) 1 0)).hop) e
              ∙ ap (λ (t : Bool). cond t 1 0) (rules_are q h.rules r)
              ∙ start_hop_lem q;
        }

-- ---- the timeliness tests

is_early : (q : Protocol) (rules : ℕ) (p : Plan) (u hop t : ℕ) → Runs q rules → early rules p u hop t ≡ true → TooEarly q p hop u t
unfolding is_second
is_early first rules p u hop t r e = false≢true (sym (ap (λ (b : Bool). b && leb (u + hop * ε p) t) (rules_are first rules r)) ∙ e)
is_early second rules p u hop t r e =
    let l : u + hop * ε p ≤ t = leb-true _ _ (and_right (eqb rules 2) (leb (u + hop * ε p) t) e) in
    λ f. omega arith

not_early : (q : Protocol) (rules : ℕ) (p : Plan) (u hop t : ℕ) → Runs q rules → early rules p u hop t ≡ false → TooEarly q p hop u t → ⊥
unfolding is_second
not_early first rules p u hop t r e = λ f. f
not_early second rules p u hop t r e = λ f. f (leb-false _ _ (sym (ap (λ (b : Bool). b && leb (u + hop * ε p) t) (rules_are second rules r)) ∙ e))

is_late : (q : Protocol) (rules : ℕ) (p : Plan) (u hop t : ℕ) → Runs q rules → late rules p u hop t ≡ true → TooLate q p hop u t
unfolding is_second
is_late first rules p u hop t r e = false≢true (sym (ap (λ (b : Bool). b && leb (t + hop * (δ p + ε p)) u) (rules_are first rules r)) ∙ e)
is_late second rules p u hop t r e =
    let l : t + hop * (δ p + ε p) ≤ u = leb-true _ _ (and_right (eqb rules 2) (leb (t + hop * (δ p + ε p)) u) e) in
    λ f. omega arith

not_late : (q : Protocol) (rules : ℕ) (p : Plan) (u hop t : ℕ) → Runs q rules → late rules p u hop t ≡ false → TooLate q p hop u t → ⊥
unfolding is_second
not_late first rules p u hop t r e = λ f. f
not_late second rules p u hop t r e = λ f. f (leb-false _ _ (sym (ap (λ (b : Bool). b && leb (t + hop * (δ p + ε p)) u) (rules_are second rules r)) ∙ e))

-- ---- receive

-- "(T, s, σ) is in H"
is_known : (x : Held) (l : List Held) → any (same_held x) l ≡ true → In x l
is_known x l e = let k = some_member (same_held x) l e in subst (λ (y : Held). In y l) (sym (same_held_lem x k.0 k.2)) k.1

not_known : (x : Held) (l : List Held) → any (same_held x) l ≡ false → In x l → ⊥
not_known x l e i = true≢false (sym (held_same x) ∙ none_member (same_held x) l e x i)

module _ (q : Protocol) (h : Host) (u : Reading) (arrival hop : ℕ) (x : Held) where
  said : ℕ → Said
  said k = said_by k (relay_links h arrival hop) (relay_hop h.rules hop)

  -- where the task iterates, nothing is sent and nothing is kept
  iterate : (line : Line) → (Sends line → ⊥) → ((y : Held) → Both (history_of h y) (Leaves line x (history_of h) y)) → eqb (number_of line) 0 ≡ false
      → Relay q h.plan h.bound (history_of h) hop u.0 x line → receive_refusal h u.0 arrival hop x ≡ number_of line → AsRelay q h u arrival hop x
  unfolding said
  iterate line none stays some leads e =
      let kept : receive_host h u arrival hop x ≡ h =
      ap (λ (k : ℕ). unless k (after_receive h u x) h) e ∙ ap (λ (t : Bool). cond t (after_receive h u x) h) some in
      let says : receive_says h u.0 arrival hop x ≡ record { refusal = number_of line; links = 0; hop = 0 } = ap said e ∙ (rw some) in
      let no-links : (receive_says h u.0 arrival hop x).links ≡ 0 = ap (λ (s : Said). s.links) says in
      record {
        line = line;
        leads = leads;
        number = e;
        history = λ y. (λ i. (stays y).0 (subst (λ (g : Host). In y (held_of g)) kept i), λ i. subst (λ (g : Host). In y (held_of g)) (sym kept) ((stays y).1 i));
        links = λ n l. (λ i. absurd (false≢true (sym (ap (λ (s : ℕ). has s l) no-links ∙ has_none l) ∙ i)), λ s. absurd (none s.0));
        next_hop = λ n s. absurd (none s);
        last_hop = λ n. (no-links, ap (λ (s : Said). s.hop) says);
      }

  relayed : Runs q h.rules → Relay q h.plan h.bound (history_of h) hop u.0 x relays → receive_refusal h u.0 arrival hop x ≡ 0 → AsRelay q h u arrival hop x
  unfolding said
  relayed r leads e =
      record {
        line = relays;
        leads = leads;
        number = e;
        history = one_more x (held_of h) (held_of (receive_host h u arrival hop x)) (receive_more h u arrival hop x e);
        links = links;
        next_hop = λ n s.
            ap (λ (k : ℕ). (said k).hop) e ∙ ap (λ (t : Bool). cond t 0 (cond (eqb h.rules 2) (hop + 1) 0)) (ne_eqb hop 8 n)
            ∙ ap (λ (t : Bool). cond t (hop + 1) 0) (rules_are q h.rules r)
            ∙ relay_hop_lem q hop;
        last_hop = λ n. (ap (λ (k : ℕ). (said k).links) e ∙ (rw (eq-eqb hop 8 n)), ap (λ (k : ℕ). (said k).hop) e ∙ (rw (eq-eqb hop 8 n)));
      }
    where
      links : (hop ≡ 8 → ⊥) → (l : ℕ) → Both (has (receive_says h u.0 arrival hop x).links l ≡ true) (Unit {0} × Adjacent h l × (l ≡ arrival → ⊥))
      links n l =
          let set = ap (λ (k : ℕ). (said k).links) e ∙ ap (λ (t : Bool). cond t 0 (other_links h.plan h.own arrival)) (ne_eqb hop 8 n) in
          let both = in_set (m h.plan) (ends_but h.plan h.own arrival) (receive_says h u.0 arrival hop x).links set l in
          let o : Bool = ends h.plan h.own l in
          let d : Bool = not (eqb l arrival) in
          (λ i. let t = both.0 i in (tt, (t.0, and_left_lem o d t.1), eqb-false _ _ (not-true _ (and_right o d t.1))), λ t. both.1 (t.1.0, simp (t.1.1, ne_eqb l arrival t.2)))

  same_set : (y : Held) → Both (history_of h y) (history_of h y)
  same_set y = (λ i. i, λ i. i)

  pub as_relay : Runs q h.rules → is_own (receive_refusal h u.0 arrival hop x) ≡ false → AsRelay q h u arrival hop x
  unfolding receive_tests
  as_relay r own = go (published (receive_tests h u.0 arrival hop x) own)
    where
      tests : (k : ℕ) → receive_refusal h u.0 arrival hop x ≡ k → Found k (receive_tests h u.0 arrival hop x)
      tests k e = found (receive_tests h u.0 arrival hop x) k refl e

      E : early h.rules h.plan u.0 hop x.stamp.0 ≡ false → TooEarly q h.plan hop u.0 x.stamp.0 → ⊥
      E = not_early q h.rules h.plan u.0 hop x.stamp.0 r

      L : late h.rules h.plan u.0 hop x.stamp.0 ≡ false → TooLate q h.plan hop u.0 x.stamp.0 → ⊥
      L = not_late q h.rules h.plan u.0 hop x.stamp.0 r

      go : In (receive_refusal h u.0 arrival hop x) (0 ∷ 16 ∷ 17 ∷ 18 ∷ 19 ∷ []) → AsRelay q h u arrival hop x
      go (inl e) =
          let t = (tests 0 e).1.1.1.1.1 in
          relayed r (E t.0, L t.1.0, leb-false _ _ t.1.1.0, not_known x (held_of h) t.1.1.1.0) e
      go (inr (inl e)) =
          let t = (tests 16 e).1.1.1.1.1 in
          iterate too_early (λ s. s) same_set refl (is_early q h.rules h.plan u.0 hop x.stamp.0 r t) e
      go (inr (inr (inl e))) =
          let t = (tests 17 e).1.1.1.1.1 in
          iterate too_late (λ s. s) same_set refl (E t.0, is_late q h.rules h.plan u.0 hop x.stamp.0 r t.1) e
      go (inr (inr (inr (inl e)))) =
          let t = (tests 18 e).1.1.1.1.1 in
          iterate late_message (λ s. s) same_set refl (E t.0, L t.1.0, leb-true _ _ t.1.1) e
      go (inr (inr (inr (inr (inl e))))) =
          let t = (tests 19 e).1.1.1.1.1 in
          iterate deja_vu (λ s. s) same_set refl (E t.0, L t.1.0, leb-false _ _ t.1.1.0, is_known x (held_of h) t.1.1.1) e
      go (inr (inr (inr (inr (inr i))))) = absurd i

-- ---- tick

ticked : (h : Host) (u : Reading) (room : ℕ) → is_own (tick_refusal h u.0 room) ≡ false → tick_refusal h u.0 room ≡ 0
unfolding tick_tests
ticked h u room own = go (published (tick_tests h u.0 room) own)
  where
    go : In (tick_refusal h u.0 room) (0 ∷ []) → tick_refusal h u.0 room ≡ 0
    go (inl e) = e
    go (inr i) = absurd i

pub as_deliveries : (h : Host) (u : Reading) (room : ℕ) → is_own (tick_refusal h u.0 room) ≡ false → AsDeliveries h u room
as_deliveries h u room own =
    let e = held_is h u (ticks room) (ticked h u room own) in
    record {
      delivered = λ y. (λ i. let r = due_in_lem h u.0 y i in (y.stamp.0, r.1, (r.0, refl)), λ k. in_due h u.0 y k.2.0 (subst (λ (T : ℕ). T + h.bound ≤ u.0) (sym k.2.1) k.1));
      history = λ y. (
        λ i. let r = waiting_in_lem h u.0 y (subst (In y) e i) in (r.0, λ T l q. let less : u.0 < y.stamp.0 + h.bound = r.1 in let same : y.stamp.0 ≡ T = q in omega arith),
        λ k. subst (In y) (sym e) (in_waiting h u.0 y k.0 (lt_of_not-le (λ l. k.1 y.stamp.0 l refl))),
      );
    }

-- it is the published one exactly if no held order is past its T + Δ
pub as_delivery : (h : Host) (u : Reading) (room : ℕ) → is_own (tick_refusal h u.0 room) ≡ false → ((y : Held) → In y (held_of h) → y.stamp.0 + h.bound < u.0 → ⊥) → AsDelivery h u room
as_delivery h u room own none =
    let k = as_deliveries h u room own in
    record {
      delivered = λ y. (
        λ i. let r = (k.delivered y).0 i in (r.0, exact y r.0 r.1 r.2.0 r.2.1, r.2),
        λ r. (k.delivered y).1 (r.0, (let same : r.0 + h.bound ≡ u.0 = r.1 in omega arith), r.2),
      );
      history = λ y. (
        λ i. let r = (k.history y).0 i in (r.0, λ T e q. r.1 T (omega arith) q),
        λ r. (k.history y).1 (r.0, λ T l q. r.1 T (exact y T l r.0 q) q),
      );
    }
  where
    exact : (y : Held) (T : ℕ) → T + h.bound ≤ u.0 → In y (held_of h) → y.stamp.0 ≡ T → T + h.bound ≡ u.0
    exact y T l i q = go (eq-or-lt_of_le l)
      where
        go : (T + h.bound ≡ u.0) ⊎ (T + h.bound < u.0) → T + h.bound ≡ u.0
        go (inl e) = e
        go (inr m) = absurd (none y i (subst (λ (t : ℕ). t + h.bound < u.0) (sym q) m))

pub only_delivery : (h : Host) (u : Reading) (room : ℕ) → AsDelivery h u room → (y : Held) → In y (held_of h) → y.stamp.0 + h.bound < u.0 → ⊥
only_delivery h u room k y i l =
    let r = (k.delivered y).0 (in_due h u.0 y i (omega arith)) in
    let due-now : r.0 + h.bound ≡ u.0 = r.1 in
    let stamp : y.stamp.0 ≡ r.0 = r.2.1 in
    omega arith
