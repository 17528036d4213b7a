-- What soundness and an accepted call say, each fact by its name. Assumes nothing.
use mathlib.Core.Path.{◌≡◌, refl, ap}
use mathlib.Core.Bool.{Bool, true, false, not, cond, ◌&&◌}
use Prim.Native.Nat.{ℕ, ◌+◌, ◌*◌, ◌≤◌, ◌<◌}
use native.Mathlib.Omega.{arith}
use borrow.Author.Tests.{not-false, not-true, leb-true, leb-false, ltb-true, ltb-false, le-leb, lt-leb, lt-ltb, le-ltb, eqb-true, eq-eqb}
use lib.Dec.{leb, ltb, eqb}
use lib.ListN.{length, get_or, drop}
use Rattle.lists.specs.Tests.{all_of, first_of}
use Rattle.lists.specs.Lists.{all, any, rising}
use Rattle.lists.proofs.Bools.{and_left_lem, and_right}
use Rattle.lists.proofs.TestLaws.{all_each, each_all, none_pass, pass_none}
use Rattle.clock.specs.Clock.{largest_reading, largest_stamp}
use Rattle.orders.specs.Orders.{share_fits}
use Rattle.orders.specs.Rules.{is_rules, hop_fits}
use Rattle.orders.specs.declared.Order.{Order}
use Rattle.network.specs.Network as net
use Rattle.host.specs.declared.Held.{Held}
use Rattle.host.specs.declared.Host.{Host}
use Rattle.host.specs.State.{no_reading, is_no_link, is_no_reading, is_no_held, starts_of, held_of, last_start, same_name, before, earlier, fits, own_started, not_above, frame_tests, history_tests, framed, sound}
use Rattle.host.specs.OwnLinks.{ends}
use Rattle.host.specs.Start.{start_tests, start_refusal}
use Rattle.host.specs.Receive.{early, late, same_held, other_held, receive_checks, receive_tests, receive_refusal}
use Rattle.host.specs.Tick.{due_of, tick_tests, tick_refusal}

pub record SoundIs (h : Host) : Type 0 where
  pub ranges : net.in_range h.plan ≡ true
  pub links : net.bad_links h.plan ≡ false
  pub d_low : 1 ≤ h.d
  pub d_high : h.d ≤ 7
  pub formula : h.bound ≡ net.bound h.rules h.plan h.d
  pub held : h.held ≤ 32
  pub fit : all (fits (net.n h.plan)) (held_of h) ≡ true
  pub rise : rising before (held_of h) ≡ true
  pub own_started_lem : all (own_started h.own h.started (last_start h)) (held_of h) ≡ true
  pub started : h.started ≤ 4
  pub starts_rise : rising earlier (starts_of h) ≡ true
  pub starts_passed : all (not_above h.last.0) (starts_of h) ≡ true
  pub rules : is_rules h.rules ≡ true
  pub own : h.own < net.n h.plan
  pub links_unused : all is_no_link (drop (net.m h.plan) h.plan.links) ≡ true
  pub starts_unused : all is_no_reading (drop h.started h.starts) ≡ true
  pub history_unused : all is_no_held (drop h.held h.history) ≡ true

pub sound_is : (h : Host) → sound h ≡ true → SoundIs h
unfolding frame_tests history_tests
sound_is h e =
    let t = all_each (frame_tests h) (and_left_lem (framed h) (all_of (history_tests h)) e) in
    let t5 = t.1.1.1.1.1 in
    let k = all_each (history_tests h) (and_right (framed h) (all_of (history_tests h)) e) in
    record {
      ranges = and_left_lem (net.in_range h.plan) (not (net.bad_links h.plan)) t.0;
      links = not-true _ (and_right (net.in_range h.plan) (not (net.bad_links h.plan)) t.0);
      d_low = leb-true _ _ t.1.0;
      d_high = leb-true _ _ t.1.1.0;
      formula = eqb-true _ _ t.1.1.1.0;
      held = leb-true _ _ k.0;
      fit = k.1.0;
      rise = k.1.1.0;
      own_started_lem = k.1.1.1.0;
      started = leb-true _ _ t.1.1.1.1.0;
      starts_rise = t5.0;
      starts_passed = t5.1.0;
      rules = t5.1.1.0;
      own = ltb-true _ _ t5.1.1.1.0;
      links_unused = t5.1.1.1.1.0;
      starts_unused = t5.1.1.1.1.1.0;
      history_unused = k.1.1.1.1.0;
    }

pub is_framed : (h : Host) → SoundIs h → framed h ≡ true
unfolding frame_tests
is_framed h s =
    each_all (frame_tests h) (
      simp (s.ranges, s.links),
      (
        le-leb _ _ s.d_low,
        (
          le-leb _ _ s.d_high,
          (
            eq-eqb _ _ s.formula,
            (
              le-leb _ _ s.started,
              (s.starts_rise, (s.starts_passed, (s.rules, (lt-ltb _ _ s.own, (s.links_unused, (s.starts_unused, tt)))))),
            ),
          ),
        ),
      ),
    )

pub is_sound : (h : Host) → SoundIs h → sound h ≡ true
unfolding history_tests
is_sound h s =
    rw (is_framed h s) (each_all (history_tests h) (le-leb _ _ s.held, (s.fit, (s.rise, (s.own_started_lem, (s.history_unused, tt))))))

-- a start that is not refused
pub record StartIs (h : Host) (u : ℕ) (o : Order) : Type 0 where
  pub sound : SoundIs h
  pub share : share_fits o ≡ true
  pub stamp : u ≤ largest_stamp
  pub later : h.last.0 ≤ u
  pub not_again : (ltb 0 h.started && eqb u (last_start h)) ≡ false
  pub in_window : (leb 4 h.started && not (leb ((get_or h.starts 0 no_reading).0 + net.window h.rules h.plan h.d) u)) ≡ false
  pub room : h.held < 32

pub start_is : (h : Host) (u : ℕ) (o : Order) → start_refusal h u o ≡ 0 → StartIs h u o
unfolding start_tests
start_is h u o e =
    let t = none_pass (start_tests h u o) refl e in
    record {
      sound = sound_is h (not-false _ t.0);
      share = not-false _ t.1.0;
      stamp = leb-true _ _ (not-false _ t.1.1.0);
      later = ltb-false _ _ t.1.1.1.0;
      not_again = t.1.1.1.1.0;
      in_window = t.1.1.1.1.1.0;
      room = leb-false _ _ t.1.1.1.1.1.1.0;
    }

pub start_runs : (h : Host) (u : ℕ) (o : Order) → StartIs h u o → start_refusal h u o ≡ 0
unfolding start_tests
start_runs h u o k =
    pass_none (start_tests h u o)
    (ap not (is_sound h k.sound), (ap not k.share, (ap not (le-leb _ _ k.stamp), (le-ltb _ _ k.later, (k.not_again, (k.in_window, (lt-leb _ _ k.room, tt)))))))

-- where there were four starts, the fourth last lies W back
pub fourth_back : (h : Host) (u : ℕ) (o : Order) → StartIs h u o → 4 ≤ h.started → (get_or h.starts 0 no_reading).0 + net.window h.rules h.plan h.d ≤ u
fourth_back h u o k four = leb-true _ _ (not-false _ (rw (le-leb 4 h.started four) at k.in_window))

-- a received copy that is not refused
pub record ReceiveIs (h : Host) (u arrival hop : ℕ) (x : Held) : Type 0 where
  pub sound : SoundIs h
  pub arrival_below : arrival < net.m h.plan
  pub arrival_own : ends h.plan h.own arrival ≡ true
  pub source : x.source < net.n h.plan
  pub stamp : x.stamp.0 ≤ largest_stamp
  pub hop_fits_lem : hop_fits h.rules hop ≡ true
  pub share : share_fits x.order ≡ true
  pub reading : u ≤ largest_reading
  pub later : h.last.0 ≤ u
  pub not_early : early h.rules h.plan u hop x.stamp.0 ≡ false
  pub not_late : late h.rules h.plan u hop x.stamp.0 ≡ false
  pub before_due : u < x.stamp.0 + h.bound
  pub not_known : any (same_held x) (held_of h) ≡ false
  pub not_other : any (other_held x) (held_of h) ≡ false
  pub not_own : (eqb x.source h.own && not (any (same_name x) (held_of h))) ≡ false
  pub room : h.held < 32

pub receive_is : (h : Host) (u arrival hop : ℕ) (x : Held) → receive_refusal h u arrival hop x ≡ 0 → ReceiveIs h u arrival hop x
unfolding receive_tests
receive_is h u arrival hop x e =
    let t = none_pass (receive_tests h u arrival hop x) refl e in
    let t5 = t.1.1.1.1.1 in
    let isArrival : Bool = ltb arrival (net.m h.plan) in
    let is_own : Bool = ends h.plan h.own arrival in
    let isSource : Bool = ltb x.source (net.n h.plan) in
    let in-plan = not-false _ t.1.0 in
    let own-source = and_right isArrival (is_own && isSource) in-plan in
    let stampFits : Bool = leb x.stamp.0 largest_stamp in
    let hopIn : Bool = hop_fits h.rules hop in
    let copy = not-false _ t.1.1.0 in
    let stamp-hop = and_left_lem (stampFits && hopIn) (share_fits x.order) copy in
    record {
      sound = sound_is h (not-false _ t.0);
      arrival_below = ltb-true _ _ (and_left_lem isArrival (is_own && isSource) in-plan);
      arrival_own = and_left_lem is_own isSource own-source;
      source = ltb-true _ _ (and_right is_own isSource own-source);
      stamp = leb-true _ _ (and_left_lem stampFits hopIn stamp-hop);
      hop_fits_lem = and_right stampFits hopIn stamp-hop;
      share = and_right (stampFits && hopIn) (share_fits x.order) copy;
      reading = leb-true _ _ (not-false _ t.1.1.1.0);
      later = ltb-false _ _ t.1.1.1.1.0;
      not_early = t5.0;
      not_late = t5.1.0;
      before_due = leb-false _ _ t5.1.1.0;
      not_known = t5.1.1.1.0;
      not_other = t5.1.1.1.1.0;
      not_own = t5.1.1.1.1.1.0;
      room = leb-false _ _ t5.1.1.1.1.1.1.0;
    }

pub receive_runs : (h : Host) (u arrival hop : ℕ) (x : Held) → ReceiveIs h u arrival hop x → receive_refusal h u arrival hop x ≡ 0
unfolding receive_tests
receive_runs h u arrival hop x k =
    pass_none (receive_tests h u arrival hop x) (
      ap not (is_sound h k.sound),
      (
        simp (lt-ltb _ _ k.arrival_below, k.arrival_own, lt-ltb _ _ k.source),
        (
          simp (le-leb _ _ k.stamp, k.hop_fits_lem, k.share),
          (
            ap not (le-leb _ _ k.reading),
            (
              le-ltb _ _ k.later,
              (
                k.not_early,
                (
                  k.not_late,
                  (
                    lt-leb _ _ k.before_due,
                    (k.not_known, (k.not_other, (k.not_own, (lt-leb _ _ k.room, tt)))),
                  ),
                ),
              ),
            ),
          ),
        ),
      ),
    )

-- a tick that is not refused
pub record TickIs (h : Host) (u room : ℕ) : Type 0 where
  pub sound : SoundIs h
  pub reading : u ≤ largest_reading
  pub later : h.last.0 ≤ u
  pub fits : 16 * length (due_of h u) ≤ room

pub tick_is : (h : Host) (u room : ℕ) → tick_refusal h u room ≡ 0 → TickIs h u room
unfolding tick_tests
tick_is h u room e =
    let t = none_pass (tick_tests h u room) refl e in
    record {
      sound = sound_is h (not-false _ t.0);
      reading = leb-true _ _ (not-false _ t.1.0);
      later = ltb-false _ _ t.1.1.0;
      fits = ltb-false _ _ t.1.1.1.0;
    }

pub tick_runs : (h : Host) (u room : ℕ) → TickIs h u room → tick_refusal h u room ≡ 0
unfolding tick_tests
tick_runs h u room k =
    pass_none (tick_tests h u room) (ap not (is_sound h k.sound), (ap not (le-leb _ _ k.reading), (le-ltb _ _ k.later, (le-ltb _ _ k.fits, tt))))

pub hop_most : (rules hop : ℕ) → hop_fits rules hop ≡ true → hop ≤ 8
hop_most rules hop = go (eqb rules 2)
  where
    go : (t : Bool) → cond t (leb 1 hop && leb hop 8) (eqb hop 0) ≡ true → hop ≤ 8
    go true e = leb-true hop 8 (and_right (leb 1 hop) (leb hop 8) e)
    go false e = let z : hop ≡ 0 = eqb-true hop 0 e in omega arith

-- a copy whose tests after soundness all fail has a hop in range
pub checked_hop : (h : Host) (u arrival hop : ℕ) (x : Held) (same other named : Bool) → first_of (receive_checks h u arrival hop x same other named) ≡ 0 → hop ≤ 8
checked_hop h u arrival hop x same other named e =
    let t = none_pass (receive_checks h u arrival hop x same other named) refl e in
    let stampFits : Bool = leb x.stamp.0 largest_stamp in
    let hopIn : Bool = hop_fits h.rules hop in
    hop_most h.rules hop (and_right stampFits hopIn (and_left_lem (stampFits && hopIn) (share_fits x.order) (not-false _ t.1.0)))
