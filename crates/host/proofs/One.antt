-- The promise of each public function admits one result only: the answer, the state that is left, and of a tick the lent list. Assumes nothing.
use mathlib.Core.Path.{◌≡◌, sym, ap₂, ◌∙◌}
use Rattle.std.specs.Prelude.{Result}
use mathlib.Core.Bool.{Bool, not, ◌||◌}
use mathlib.Core.List.{List, map}
use Prim.Native.Nat.{ℕ, ◌+◌, ◌-◌}
use lib.Dec.{eqb}
use lib.ListN.{length, get_or, take}
use Rattle.lists.specs.Lists.{any, lead, pad}
use Rattle.lists.proofs.One.{one_result, one_answer, one_call}
use Rattle.clock.specs.declared.Reading.{Reading}
use Rattle.orders.specs.declared.Order.{Order}
use Rattle.network.specs.declared.Plan.{Plan}
use Rattle.network.specs.declared.PlanRefusal.{PlanRefusal}
use Rattle.host.specs.declared.Frame.{Frame}
use Rattle.host.specs.declared.Held.{Held}
use Rattle.host.specs.declared.Host.{Host}
use Rattle.host.specs.declared.Seen.{Seen}
use Rattle.host.specs.declared.Sent.{Sent}
use Rattle.host.specs.declared.Acted.{Acted}
use Rattle.host.specs.declared.Ticked.{Ticked}
use Rattle.host.specs.declared.Refusal.{Refusal}
use Rattle.host.specs.State.{no_reading, no_held, bare, framed, sound, same_name}
use Rattle.host.specs.Inside.{stored}
use Rattle.host.specs.Entries.{entry_of}
use Rattle.host.specs.Answers.{number, of_plan, refusal_of, says, says_tick}
use Rattle.host.specs.Make.{made, make_refusal, make_host}
use Rattle.host.specs.Start.{with_start, start_answer, start_says, start_host}
use Rattle.host.specs.Receive.{same_held, other_held, receive_answer, receive_says, receive_host}
use Rattle.host.specs.Tick.{due, tick_answer, tick_says, tick_host, tick_list}
use Rattle.host.proofs.Numbers.{made_by, made_back, send_by, send_back, tick_by, tick_back}

pub is_sound_one : (h : Host) (r s : Bool) → r ≡ sound h → s ≡ sound h → r ≡ s
is_sound_one h r s = one_result

pub is_framed_one : (f : Frame) (r s : Bool) → r ≡ framed (bare f) → s ≡ framed (bare f) → r ≡ s
is_framed_one f r s = one_result

-- ---- the walks over a history, l, in whatever form it is stored: f tells the order that stands in a place

module _ {A : Type 0} (f : A → Held) where
  pub is_sound_in_one : (g : Frame) (l : List A) (r s : Bool) → r ≡ sound (stored g (map f l)) → s ≡ sound (stored g (map f l)) → r ≡ s
  is_sound_in_one g l r s = one_result

  pub due_in_front_one : (l : List A) (Δ : ℕ) (u : Reading) (r s : ℕ) → r ≡ length (lead (due Δ u.0) (map f l)) → s ≡ length (lead (due Δ u.0) (map f l)) → r ≡ s
  due_in_front_one l Δ u r s = one_result

  pub look_one : (l : List A) (x : Held) (r s : Seen)
      → (r.same ≡ any (same_held x) (map f l)) × ((r.other ≡ any (other_held x) (map f l)) × (r.named ≡ any (same_name x) (map f l)))
      → (s.same ≡ any (same_held x) (map f l)) × ((s.other ≡ any (other_held x) (map f l)) × (s.named ≡ any (same_name x) (map f l)))
      → (r.same ≡ s.same) × ((r.other ≡ s.other) × (r.named ≡ s.named))
  look_one l x r s a b = (one_result a.0 b.0, (one_result a.1.0 b.1.0, one_result a.1.1 b.1.1))

-- the number that tells an unused place
pub bits_one : {A : Type 0} (bits_of : A → ℕ) (e : A) (r s : ℕ) → r ≡ bits_of e → s ≡ bits_of e → r ≡ s
bits_one bits_of e r s = one_result

pub newest_one : (l : List Reading) (k : ℕ) (r s : Reading) → r ≡ get_or l (k - 1) no_reading → s ≡ get_or l (k - 1) no_reading → r ≡ s
newest_one l k r s = one_result

pub with_start_one : (l : List Reading) (k : ℕ) (u : Reading) (r s : List Reading) → r ≡ pad 4 no_reading (with_start (take k l) u) → s ≡ pad 4 no_reading (with_start (take k l) u) → r ≡ s
with_start_one l k u r s = one_result

pub one_more_one : (k r s : ℕ) → r ≡ k - (k - 3) + 1 → s ≡ k - (k - 3) + 1 → r ≡ s
one_more_one k r s = one_result

pub entry_one : (e : Held) (r s : List ℕ) → r ≡ entry_of e → s ≡ entry_of e → r ≡ s
entry_one e r s = one_result

pub number_of_one : (r : Refusal) (m n : ℕ) → m ≡ number r → n ≡ number r → m ≡ n
number_of_one r m n = one_result

pub refusal_from_plan_one : (q : PlanRefusal) (r s : Refusal) → r ≡ of_plan q → s ≡ of_plan q → r ≡ s
refusal_from_plan_one q r s = one_result

pub make_one : (p : Plan) (rules own : ℕ) (r s : Result Host Refusal)
    → (made r ≡ make_host p rules own) × (refusal_of r ≡ make_refusal p rules own)
    → (made s ≡ make_host p rules own) × (refusal_of s ≡ make_refusal p rules own) → r ≡ s
make_one p rules own r s x y =
    sym (made_back r) ∙ ap₂ made_by (x.1 ∙ sym y.1) (x.0 ∙ sym y.0) ∙ made_back s

pub made_one : (a : Result Host Refusal) (r s : Host) → r ≡ made a → s ≡ made a → r ≡ s
made_one a r s = one_result

-- ---- the answers by a frame

pub start_answer_one : (f : Frame) (u : ℕ) (o : Order) (r s : Result Sent Refusal) → says r ≡ start_answer (bare f) u o → says s ≡ start_answer (bare f) u o → r ≡ s
start_answer_one f u o = one_answer says send_by send_back

pub receive_answer_one : (f : Frame) (u arrival hop : ℕ) (x : Held) (seen : Seen) (r s : Result Sent Refusal)
    → says r ≡ receive_answer (bare f) u arrival hop x seen.same seen.other seen.named
    → says s ≡ receive_answer (bare f) u arrival hop x seen.same seen.other seen.named → r ≡ s
receive_answer_one f u arrival hop x seen = one_answer says send_by send_back

pub tick_answer_one : (f : Frame) (u room count : ℕ) (r s : Result ℕ Refusal) → says_tick r ≡ tick_answer (bare f) u room count → says_tick s ≡ tick_answer (bare f) u room count → r ≡ s
tick_answer_one f u room count = one_answer says_tick tick_by tick_back

-- nothing is due, of a lent state
pub is_idle_one : (h : Host) (u : Reading) (r s : Bool)
    → r ≡ (eqb h.held 0 || not (due h.bound u.0 (get_or h.history 0 no_held))) → s ≡ (eqb h.held 0 || not (due h.bound u.0 (get_or h.history 0 no_held))) → r ≡ s
is_idle_one h u r s = one_result

-- ---- over a lent state, g and k at exit

pub start_one_lem : (h : Host) (u : Reading) (o : Order) (g k : Host) (r s : Result Sent Refusal)
    → (g ≡ start_host h u o) × (says r ≡ start_says h u.0 o)
    → (k ≡ start_host h u o) × (says s ≡ start_says h u.0 o) → (g ≡ k) × (r ≡ s)
start_one_lem h u o = one_call says send_by send_back

pub receive_one : (h : Host) (u : Reading) (arrival hop : ℕ) (x : Held) (g k : Host) (r s : Result Sent Refusal)
    → (g ≡ receive_host h u arrival hop x) × (says r ≡ receive_says h u.0 arrival hop x)
    → (k ≡ receive_host h u arrival hop x) × (says s ≡ receive_says h u.0 arrival hop x) → (g ≡ k) × (r ≡ s)
receive_one h u arrival hop x = one_call says send_by send_back

-- the lent list at exit is l and m
pub tick_one_lem : (h : Host) (u : Reading) (out : List ℕ) (g k : Host) (r s : Result ℕ Refusal) (l m : List ℕ)
    → (g ≡ tick_host h u (length out)) × ((says_tick r ≡ tick_says h u.0 (length out)) × (l ≡ tick_list h u.0 out))
    → (k ≡ tick_host h u (length out)) × ((says_tick s ≡ tick_says h u.0 (length out)) × (m ≡ tick_list h u.0 out)) → ((g ≡ k) × (r ≡ s)) × (l ≡ m)
tick_one_lem h u out g k r s l m x y = (one_call says_tick tick_by tick_back g k r s (x.0, x.1.0) (y.0, y.1.0), one_result x.1.1 y.1.1)

-- ---- by value

acted : {r s : Acted} → (r.host ≡ s.host) × (r.answer ≡ s.answer) → r ≡ s
acted e = ap₂ (λ (g : Host) (a : Result Sent Refusal). record { host = g; answer = a }) e.0 e.1

pub after_start_one : (h : Host) (u : Reading) (o : Order) (r s : Acted)
    → (r.host ≡ start_host h u o) × (says r.answer ≡ start_says h u.0 o)
    → (s.host ≡ start_host h u o) × (says s.answer ≡ start_says h u.0 o) → r ≡ s
after_start_one h u o r s x y = acted (start_one_lem h u o r.host s.host r.answer s.answer x y)

pub after_receive_one : (h : Host) (u : Reading) (arrival hop : ℕ) (x : Held) (r s : Acted)
    → (r.host ≡ receive_host h u arrival hop x) × (says r.answer ≡ receive_says h u.0 arrival hop x)
    → (s.host ≡ receive_host h u arrival hop x) × (says s.answer ≡ receive_says h u.0 arrival hop x) → r ≡ s
after_receive_one h u arrival hop x r s y z = acted (receive_one h u arrival hop x r.host s.host r.answer s.answer y z)

pub after_tick_one : (h : Host) (u : Reading) (out : List ℕ) (r s : Ticked) (l m : List ℕ)
    → (r.host ≡ tick_host h u (length out)) × ((says_tick r.answer ≡ tick_says h u.0 (length out)) × (l ≡ tick_list h u.0 out))
    → (s.host ≡ tick_host h u (length out)) × ((says_tick s.answer ≡ tick_says h u.0 (length out)) × (m ≡ tick_list h u.0 out)) → (r ≡ s) × (l ≡ m)
after_tick_one h u out r s l m x y =
    let e = tick_one_lem h u out r.host s.host r.answer s.answer l m x y in
    (ap₂ (λ (g : Host) (a : Result ℕ Refusal). record { host = g; answer = a }) e.0.0 e.0.1, e.1)
