-- The paper's numbers tell the refusals apart, and none is 0: so what an answer says tells the answer. Assumes nothing.
use mathlib.Core.Path.{◌≡◌, refl, sym, ap, ◌∙◌}
use mathlib.Core.Bool.{Bool, true, false, cond}
use Prim.Native.Nat.{ℕ}
use Rattle.std.specs.Prelude.{Result, Ok, Err}
use Rattle.std.specs.Result.{IsErrAnd}
use Rattle.host.specs.declared.Host.{Host}
use Rattle.host.specs.Make.{made}
use borrow.Author.Tests.{eqb-true}
use lib.Dec.{eqb}
use Rattle.host.specs.Answers.{number, refusal_of, Said, says, said_by, SaidTick, says_tick, said_by_tick, unless}
use Rattle.host.specs.declared.Refusal.{Refusal}
use Rattle.host.specs.declared.Refusal.TheVariants.{OutOfRange, BadLink, Parted, Unsound, BadReading, Behind, SameStart, WindowFull, HistoryFull, NotInPlan, Early, Late, Past, Known, OtherHeld, OwnNotHeld, ShortBuffer, BadValue}
use Rattle.host.specs.declared.Sent.{Sent}

-- the refusal of a number
refusal : ℕ → Refusal
refusal k =
    cond (eqb k 1) OutOfRange (cond (eqb k 2) BadLink (cond (eqb k 3) Parted (cond (eqb k 9) Unsound (cond (eqb k 10) BadReading (cond (eqb k 11) Behind
    (cond (eqb k 12) SameStart (cond (eqb k 13) WindowFull (cond (eqb k 14) HistoryFull (cond (eqb k 15) NotInPlan (cond (eqb k 16) Early
    (cond (eqb k 17) Late (cond (eqb k 18) Past (cond (eqb k 19) Known (cond (eqb k 20) OtherHeld (cond (eqb k 21) OwnNotHeld
    (cond (eqb k 22) ShortBuffer BadValue))))))))))))))))

back : (r : Refusal) → (refusal (number r) ≡ r) × (eqb (number r) 0 ≡ false)
unfolding refusal
back OutOfRange = (refl, refl)
back BadLink = (refl, refl)
back Parted = (refl, refl)
back Unsound = (refl, refl)
back BadReading = (refl, refl)
back Behind = (refl, refl)
back SameStart = (refl, refl)
back WindowFull = (refl, refl)
back HistoryFull = (refl, refl)
back NotInPlan = (refl, refl)
back Early = (refl, refl)
back Late = (refl, refl)
back Past = (refl, refl)
back Known = (refl, refl)
back OtherHeld = (refl, refl)
back OwnNotHeld = (refl, refl)
back ShortBuffer = (refl, refl)
back BadValue = (refl, refl)

-- a refusal's number is not 0, which stands for none
pub not_none : (r : Refusal) → eqb (number r) 0 ≡ false
not_none r = (back r).1

-- a refused call keeps what there was, and says its number and zero elsewhere
pub kept : {A : Type 0} (r : Refusal) (k : ℕ) (after now : A) → number r ≡ k → now ≡ unless k after now
kept {A} r k after now e = sym (ap (λ (j : ℕ). unless j after now) (sym e) ∙ ap (λ (t : Bool). cond t after now) (not_none r))

pub says_refused : (r : Refusal) (k links hop : ℕ) → number r ≡ k → says (Err r) ≡ said_by k links hop
says_refused r k links hop e = rw (← e, not_none r)

pub tick_refused : (r : Refusal) (k count : ℕ) → number r ≡ k → says_tick (Err r) ≡ said_by_tick k count
tick_refused r k count e = rw (← e, not_none r)

-- an accepted call says 0, and what it answers
pub says_sent : (k l h : ℕ) (s : Sent) → k ≡ 0 → s.links ≡ l → s.hop ≡ h → says (Ok s) ≡ said_by k l h
says_sent k l h s e f g = rw (e, f, g)

pub tick_delivered : (k count : ℕ) → k ≡ 0 → says_tick (Ok count) ≡ said_by_tick k count
tick_delivered k count e = rw e

-- what is said has the refusal
pub said_refusal : (k links hop : ℕ) → (said_by k links hop).refusal ≡ k
said_refusal k links hop = go (eqb k 0) refl
  where
    go : (t : Bool) → eqb k 0 ≡ t → (cond {A = Said} t (record { refusal = 0; links = links; hop = hop }) (record { refusal = k; links = 0; hop = 0 })).refusal ≡ k
    go true e = sym (eqb-true k 0 e)
    go false e = refl

pub tick_refusal_lem : (k count : ℕ) → (said_by_tick k count).refusal ≡ k
tick_refusal_lem k count = go (eqb k 0) refl
  where
    go : (t : Bool) → eqb k 0 ≡ t → (cond {A = SaidTick} t (record { refusal = 0; count = count }) (record { refusal = k; count = 0 })).refusal ≡ k
    go true e = sym (eqb-true k 0 e)
    go false e = refl

-- a check that refused nothing has a test that failed
pub passed : (t : Bool) (r : Refusal) (a : Result (Unit {0}) Refusal) → a ≡ cond t (Err r) (Ok tt) → a ≡ Ok tt → t ≡ false
passed true r a e f = let g = sym e ∙ f in cc g
passed false r a e f = refl

pub failed : (t : Bool) (r s : Refusal) (a : Result (Unit {0}) Refusal) → a ≡ cond t (Err r) (Ok tt) → a ≡ Err s → (t ≡ true) × (s ≡ r)
failed true r s a e f = (refl, let g = sym f ∙ e in cc g)
failed false r s a e f = let g = sym e ∙ f in cc g

pub said : (t : Bool) (r : Refusal) (a : Result (Unit {0}) Refusal) → a ≡ cond t (Err r) (Ok tt) → refusal_of a ≡ cond t (number r) 0
said true r a e = ap refusal_of e
said false r a e = ap refusal_of e

pub err_is : {A : Type 0} (a : Result A Refusal) (r : Refusal) → IsErrAnd a (λ (s : Refusal). s ≡ r) → a ≡ Err r
err_is (Ok x) r h = absurd h
err_is (Err s) r h = ap Err h

-- ---- the answer that says this

pub verdict_by : ℕ → Result (Unit {0}) Refusal
verdict_by k = cond (eqb k 0) (Ok tt) (Err (refusal k))

pub verdict_back : (v : Result (Unit {0}) Refusal) → verdict_by (refusal_of v) ≡ v
unfolding verdict_by
verdict_back (Ok tt) = refl
verdict_back (Err r) = simp (not_none r, (back r).0)

pub made_by : ℕ → Host → Result Host Refusal
made_by k h = cond (eqb k 0) (Ok h) (Err (refusal k))

pub made_back : (a : Result Host Refusal) → made_by (refusal_of a) (made a) ≡ a
unfolding made_by
made_back (Ok h) = refl
made_back (Err r) = simp (not_none r, (back r).0)

pub send_by : Said → Result Sent Refusal
send_by s = cond (eqb s.refusal 0) (Ok (record { links = s.links; hop = s.hop })) (Err (refusal s.refusal))

pub send_back : (a : Result Sent Refusal) → send_by (says a) ≡ a
unfolding send_by
send_back (Ok s) = refl
send_back (Err r) = simp (not_none r, (back r).0)

pub tick_by : SaidTick → Result ℕ Refusal
tick_by s = cond (eqb s.refusal 0) (Ok s.count) (Err (refusal s.refusal))

pub tick_back : (a : Result ℕ Refusal) → tick_by (says_tick a) ≡ a
unfolding tick_by
tick_back (Ok count) = refl
tick_back (Err r) = simp (not_none r, (back r).0)
