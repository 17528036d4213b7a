-- Of a sound state a call says what its answer is: soundness is passed, and the tests after it decide. Assumes nothing.
use mathlib.Core.Path.{◌≡◌, refl, sym, ap, ap₂, ◌∙◌}
use mathlib.Core.Bool.{Bool, true, false, not, cond}
use mathlib.Core.List.{List, ◌∷◌}
use Prim.Native.Nat.{ℕ, ◌*◌, ◌/◌, ◌≤◌, ◌<◌}
use native.Mathlib.Omega.{arith}
use borrow.Author.Tests.{ltb-true, ltb-false, lt-ltb, le-ltb}
use lib.Dec.{ltb, eqb}
use lib.ListN.{length}
use Rattle.lists.specs.Tests.{first_of}
use Rattle.lists.specs.Lists.{any}
use Rattle.orders.specs.declared.Order.{Order}
use Rattle.network.specs.Network.{m}
use Rattle.network.proofs.Ranges.{ranges}
use Rattle.host.specs.declared.Frame.{Frame}
use Rattle.host.specs.declared.Held.{Held}
use Rattle.host.specs.declared.Host.{Host}
use Rattle.host.specs.State.{held_of, same_name, sound, bare, frame_of}
use Rattle.host.specs.Answers.{Said, said_by, SaidTick, said_by_tick}
use Rattle.host.specs.OwnLinks.{set_of, placed, ends, ends_but}
use Rattle.host.specs.Start.{start_checks, start_tests, start_answer, start_says}
use Rattle.host.specs.Receive.{same_held, other_held, receive_checks, receive_tests, relay_hop, receive_answer, receive_says}
use Rattle.host.specs.Tick.{due_of, tick_checks, tick_tests, tick_answer, tick_says}
use Rattle.host.proofs.Sets.{placed_all}
use Rattle.host.proofs.Facts.{sound_is}

-- an order of checks with 9 before it, of a state that is not sound and of one that is
pub unsound_first : (h : Host) (cs : List (ℕ × Bool)) → sound h ≡ false → 9 ≡ first_of ((9, not (sound h)) ∷ cs)
unsound_first h cs e = sym (ap (λ (t : Bool). cond (not t) 9 (first_of cs)) e)

sound_first : (h : Host) (cs : List (ℕ × Bool)) → sound h ≡ true → first_of cs ≡ first_of ((9, not (sound h)) ∷ cs)
sound_first h cs e = sym (ap (λ (t : Bool). cond (not t) 9 (first_of cs)) e)

-- every link of a sound state has a place
sound_placed : (h : Host) → sound h ≡ true → placed h.plan ≡ m h.plan
sound_placed h e = placed_all h.plan (ranges h.plan (sound_is h e).ranges).links_high

pub start_answered : (h : Host) (u : ℕ) (o : Order) → sound h ≡ true → start_answer h u o ≡ start_says h u o
unfolding start_tests
start_answered h u o e =
    ap₂ (λ (k l : ℕ). said_by k (set_of l (ends h.plan h.own)) (cond (eqb h.rules 2) 1 0)) (sound_first h (start_checks h u o) e) (sound_placed h e)

pub receive_answered : (h : Host) (u arrival hop : ℕ) (x : Held) → sound h ≡ true
    → receive_answer h u arrival hop x (any (same_held x) (held_of h)) (any (other_held x) (held_of h)) (any (same_name x) (held_of h)) ≡ receive_says h u arrival hop x
unfolding receive_tests
receive_answered h u arrival hop x e =
    ap₂ (λ (k l : ℕ). said_by k (cond (eqb hop 8) 0 (set_of l (ends_but h.plan h.own arrival))) (relay_hop h.rules hop))
    (sound_first h (receive_checks h u arrival hop x (any (same_held x) (held_of h)) (any (other_held x) (held_of h)) (any (same_name x) (held_of h))) e)
    (sound_placed h e)

pub tick_answered : (h : Host) (u room : ℕ) → sound h ≡ true → tick_answer h u room (length (due_of h u)) ≡ tick_says h u room
unfolding tick_tests
tick_answered h u room e =
    ap (λ (k : ℕ). said_by_tick k (length (due_of h u))) (sound_first h (tick_checks h u room (length (due_of h u))) e)

-- ---- by the frame of the state, and what was seen of its history

pub start_said : (h : Host) (u : ℕ) (o : Order) (f : Frame) {w : Said} → sound h ≡ true → f ≡ frame_of h → w ≡ start_answer (bare f) u o → w ≡ start_says h u o
start_said h u o f e is said = said ∙ ap (λ (g : Frame). start_answer (bare g) u o) is ∙ start_answered h u o e

pub receive_said : (h : Host) (u arrival hop : ℕ) (x : Held) (f : Frame) (same other named : Bool) {w : Said} → sound h ≡ true → f ≡ frame_of h
    → (same ≡ any (same_held x) (held_of h)) × ((other ≡ any (other_held x) (held_of h)) × (named ≡ any (same_name x) (held_of h)))
    → w ≡ receive_answer (bare f) u arrival hop x same other named → w ≡ receive_says h u arrival hop x
receive_said h u arrival hop x f same other named e is seen said =
    said
    ∙ ap (λ (g : Frame). receive_answer (bare g) u arrival hop x same other named) is
    ∙ ap (λ (t : Bool). receive_answer h u arrival hop x t other named) seen.0
    ∙ ap (λ (t : Bool). receive_answer h u arrival hop x (any (same_held x) (held_of h)) t named) seen.1.0
    ∙ ap (λ (t : Bool). receive_answer h u arrival hop x (any (same_held x) (held_of h)) (any (other_held x) (held_of h)) t) seen.1.1
    ∙ receive_answered h u arrival hop x e

pub tick_said : (h : Host) (u room : ℕ) (f : Frame) (count : ℕ) {w : SaidTick} → sound h ≡ true → f ≡ frame_of h → count ≡ length (due_of h u)
    → w ≡ tick_answer (bare f) u room count → w ≡ tick_says h u room
tick_said h u room f count e is n said =
    said ∙ ap (λ (g : Frame). tick_answer (bare g) u room count) is ∙ ap (λ (k : ℕ). tick_answer h u room k) n ∙ tick_answered h u room e

-- a list is too short for so many entries where it has fewer whole places of 16 bytes
pub too_short_lem : (room count : ℕ) → ltb (room / 16) count ≡ ltb room (16 * count)
too_short_lem room count = go (ltb room (16 * count)) refl
  where
    go : (t : Bool) → ltb room (16 * count) ≡ t → ltb (room / 16) count ≡ t
    go true e = let l : room < 16 * count = ltb-true room (16 * count) e in lt-ltb (room / 16) count (omega arith)
    go false e = let l : 16 * count ≤ room = ltb-false room (16 * count) e in le-ltb (room / 16) count (omega arith)
