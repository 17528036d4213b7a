-- The lengths of what is written, which C's number of an answer has room for, and numbers put at the front of a lent list. Assumes nothing.
use mathlib.Core.Path.{◌≡◌, refl, sym, ap, ◌∙◌}
use mathlib.Core.Bool.{Bool, true, false, cond}
use mathlib.Core.List.{List, [], ◌∷◌, ◌++◌, append_assoc}
use Prim.Native.Nat.{ℕ, ◌+◌, ◌≤◌, ◌<◌}
use native.Mathlib.Omega.{arith}
use Rattle.lists.proofs.Loops.{left_next}
use lib.Seq.{length-take-le, take-suc, set_at}
use native.Mathlib.Numerals.{add-one}
use lib.Dec.{ltb, eqb}
use lib.ListN.{length, take, drop, get_or, set}
use Rattle.std.specs.Prelude.{Result, Ok, Err, IfOk}
use Rattle.host.specs.Answers.{says_tick, unless}
use Rattle.host.specs.declared.Refusal.{Refusal}
use Rattle.message.specs.declared.Found.{Found}
use Rattle.message.specs.declared.Message.{Message}
use Rattle.message.specs.Layout.{layout}
use Rattle.message.specs.declared.WriteRefusal.{WriteRefusal}
use Rattle.message.specs.Calls.{write_refusal, write_says, written, read_of}
use Rattle.message.proofs.WriteLaws.{place_small, size_small, length_layout}
use Rattle.schedule.specs.Calls.{answered}
use Rattle.engine.specs.Calls.{outcome_of}
use Rattle.report.specs.declared.ShortBuffer.{ShortBuffer}
use Rattle.report.specs.Calls.{reported, says, too_short, told, enough}
use Rattle.engine.proofs.Runs.{outcome_in_places}
use Rattle.report.proofs.Room.{text_size}
use Rattle.service.specs.Calls.{numbers_of, read_answer, read_left}

-- a message has at most 28 bytes
pub message_few : (rules : ℕ) (m : Message) → length (layout rules m) ≤ 28
message_few rules m = omega (arith, length_layout rules m, place_small rules, size_small m.order)

pub written_few : (rules room n : ℕ) (m : Message) → (0, n) ≡ written rules m room → n ≤ 28
written_few rules room n m e = go (eqb (write_refusal rules m room) 0) (ap (λ (q : ℕ × ℕ). q.1) e)
  where
    go : (b : Bool) → n ≡ cond b (length (layout rules m)) 0 → n ≤ 28
    go true e = omega (arith, message_few rules m)
    go false e = omega arith

pub told_few : (bs out : List ℕ) (n : ℕ) → (0, n) ≡ told (reported bs) out → n ≤ enough
told_few bs out n e = go (too_short (reported bs) out) (ap (λ (q : ℕ × ℕ). q.1) e)
  where
    go : (b : Bool) → n ≡ (cond {A = ℕ × ℕ} b (22, 0) (0, length (reported bs))).1 → n ≤ enough
    go true e = omega arith
    go false e = omega (arith, text_size (answered bs) (outcome_of bs) (outcome_in_places bs))

-- of an answer, as its number asks
pub write_small : (rules room : ℕ) (m : Message) (r : Result ℕ WriteRefusal) → write_says r ≡ written rules m room → IfOk r (λ n. n ≤ 16777215)
write_small rules room m (Ok n) e = omega (arith, written_few rules room n m e)
write_small rules room m (Err _) e = tt

pub told_small : (bs out : List ℕ) (r : Result ℕ ShortBuffer) → says r ≡ told (reported bs) out → IfOk r (λ n. n ≤ 16777215)
told_small bs out (Ok n) e = omega (arith, told_few bs out n e)
told_small bs out (Err _) e = tt

pub tick_small : (r : Result ℕ Refusal) → (says_tick r).count ≤ 32 → IfOk r (λ n. n ≤ 16777215)
tick_small (Ok n) few = omega (arith, few)
tick_small (Err _) few = tt

-- what reading says is what the answer and the numbers are made of
module _ (rules : ℕ) (bs out : List ℕ) (said : ℕ × Found) (e : said ≡ read_of rules bs) where
  pub read_answer_lem : cond (eqb said.0 0) (cond (ltb (length out) 8) 22 0) said.0 ≡ read_answer rules bs (length out)
  read_answer_lem = ap (λ (q : ℕ × Found). cond (eqb q.0 0) (cond (ltb (length out) 8) 22 0) q.0) e

  pub read_left_lem : unless (cond (eqb said.0 0) (cond (ltb (length out) 8) 22 0) said.0) (numbers_of said.1 ++ drop 8 out) out ≡ read_left rules bs out
  read_left_lem = ap (λ (q : ℕ × Found). unless (cond (eqb q.0 0) (cond (ltb (length out) 8) 22 0) q.0) (numbers_of q.1 ++ drop 8 out) out) e

-- refused by a test alone
pub unless_test : {A : Type 0} (b : Bool) (x y : A) → cond b y x ≡ unless (cond b 22 0) x y
unless_test true x y = refl
unless_test false x y = refl

-- one number more at the front
pub put_next : (l out : List ℕ) (i : ℕ) → i < length l → i < length out → set (take i l ++ drop i out) i (get_or l i 0) ≡ take (i + 1) l ++ drop (i + 1) out
put_next l out i h k =
    let x : ℕ = get_or l i 0 in
    let more : take (i + 1) l ≡ take i l ++ (x ∷ []) = rw add-one (take-suc l i 0 h) in
    ap (λ (t : List ℕ). set (take i l ++ t) i x) (left_next out 0 i k)
    ∙ set_at (take i l) (get_or out i 0) (drop (i + 1) out) x i (length-take-le i l (omega arith))
    ∙ sym (append_assoc (take i l) (x ∷ []) (drop (i + 1) out))
    ∙ ap (λ (t : List ℕ). t ++ drop (i + 1) out) (sym more)
