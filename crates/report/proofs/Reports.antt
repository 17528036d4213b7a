-- What the report answers and leaves, by whether its text fits. Assumes nothing.
use mathlib.Core.Path.{◌≡◌, refl, ap, ◌∙◌}
use mathlib.Core.Bool.{Bool, true, false, cond}
use mathlib.Core.List.{List, [], ◌++◌}
use Prim.Native.Nat.{ℕ, ◌≤◌, ◌<◌}
use native.Mathlib.Omega.{arith}
use borrow.Author.Tests.{ltb-true, ltb-false}
use lib.Dec.{eqb}
use lib.ListN.{length, drop}
use Rattle.std.specs.Borrow.{MutBor}
use Rattle.fields.proofs.Placing.{placed_sets, placed_front}
use Rattle.network.specs.declared.PlanRefusal.TheVariants.{OutOfRange, BadLink, Parted}
use Rattle.schedule.specs.declared.Refusal.{Refusal}
use Rattle.schedule.specs.declared.Refusal.TheVariants.{NotASchedule, Plan, OutsideRules}
use Rattle.schedule.specs.Calls.{answered, numbers}
use Rattle.engine.proofs.Runs.{some_number}
use Rattle.engine.specs.Calls.{outcome_of}
use Rattle.engine.specs.declared.Outcome.{Outcome}
use Rattle.report.specs.Text.{item, text, outcome_text, refused_text}
use Rattle.report.specs.Calls.{reported, too_short, told, left, enough}
use Rattle.report.specs.declared.writers.Writer.{Writer}
use Rattle.report.specs.Inside.{last, Counts, Starts, Wrote}

pub text_run : (o : Outcome) → outcome_text o ≡ text (0, 0) o
unfolding text
text_run o = refl

pub text_refused : (r : Refusal) (o : Outcome) → refused_text (numbers r) ≡ text (numbers r) o
unfolding text
text_refused r o = rw (some_number r)

-- "with the index after 32", and none after any other number
abbrev pub index_text : Refusal → List ℕ
index_text r = cond (eqb (numbers r).0 32) (item " " (numbers r).1) []

pub no_index : (r : Refusal) → ((k : ℕ) → r ≡ OutsideRules k → ⊥) → [] ≡ index_text r
no_index NotASchedule h = refl
no_index (Plan OutOfRange) h = refl
no_index (Plan BadLink) h = refl
no_index (Plan Parted) h = refl
no_index (OutsideRules k) h = absurd (h k refl)

-- the text of what a run answers is the report of its bytes
pub text_reported : (bs : List ℕ) (a : ℕ × ℕ) (o : Outcome) → a ≡ answered bs → o ≡ outcome_of bs → text a o ≡ reported bs
text_reported bs a o p q = ap (λ (b : ℕ × ℕ). text b o) p ∙ ap (text (answered bs)) q

module _ (t out : List ℕ) where
  pub is_short : length out < length t → too_short t out ≡ true
  unfolding too_short
  is_short h = go (too_short t out) refl
    where
      go : (b : Bool) → too_short t out ≡ b → b ≡ true
      go true e = refl
      go false e = absurd (omega (arith, ltb-false))

  pub has_room : length t ≤ length out → too_short t out ≡ false
  unfolding too_short
  has_room h = go (too_short t out) refl
    where
      go : (b : Bool) → too_short t out ≡ b → b ≡ false
      go false e = refl
      go true e = absurd (omega (arith, ltb-true))

  pub short_room : too_short t out ≡ false → length t ≤ length out
  unfolding too_short
  short_room e = omega (arith, ltb-false)

-- a text t that is the report r, written from the front of a buffer on
module _ {t r : List ℕ} (same : t ≡ r) (small : length r ≤ enough) {b : MutBor (List ℕ)} {w v : Writer} (s : Starts b w) (short : length b.now ≤ last) (d : Wrote w t v) where
  counts : Counts w
  counts = record { place = omega (arith, s.front); long = omega (arith, ap length s.whole) }

  long : v.at ≡ length r
  long = omega (arith, d.end counts, s.front, ap length same)

  pub too_short_lem : (out : List ℕ) → length out < v.at → ((22, 0) ≡ told r out) × (out ≡ left r out)
  too_short_lem out h =
      let m = long in
      let e = is_short r out (omega arith) in
      (rw e, rw e)

  pub placed : length r ≤ length b.now → v.out.now ≡ r ++ drop (length r) b.now
  placed h = d.put counts ∙ cc (same, s.front, s.whole) ∙ placed_sets b.now 0 r (omega arith) ∙ placed_front b.now r h

-- and there, where it fits, after it was written to learn its length
pub fits : {t r : List ℕ} (same : t ≡ r) (small : length r ≤ enough) {b c : MutBor (List ℕ)} {w v x y : Writer}
    → Starts b w → length b.now ≤ last → Wrote w t v → Starts c x → length c.now ≤ last → Wrote x t y
    → v.at ≤ length c.now → ((0, v.at) ≡ told r c.now) × (y.out.now ≡ left r c.now)
fits {r = r} same small {c = c} s short d q l e h =
    let m = long same small s short d in
    let g : length r ≤ length c.now = omega arith in
    let roomy = has_room r c.now g in
    (rw (roomy, m), rw roomy (placed same small q l e g))
