-- A buffer of `enough` bytes has room for every report, so none is refused with 22. Assumes nothing.
use mathlib.Core.Path.{◌≡◌, refl, sym, ap}
use mathlib.Core.Bool.{Bool, true, false, cond}
use mathlib.Core.List.{List, [], ◌++◌}
use Prim.Native.Nat.{ℕ, ◌≤◌}
use native.Mathlib.Omega.{arith}
use lib.Dec.{eqb}
use lib.ListN.{length, length-append}
use Rattle.std.specs.Prelude.{Result, Ok}
use Rattle.engine.specs.Calls.{outcome_of}
use Rattle.engine.proofs.Runs.{outcome_in_places}
use Rattle.engine.specs.Inside.{InPlaces}
use Rattle.engine.specs.declared.Outcome.{Outcome}
use Rattle.schedule.specs.Calls.{answered}
use Rattle.report.specs.declared.ShortBuffer.{ShortBuffer}
use Rattle.report.specs.Text.{word, item, line, starts_text, hosts_text, outcome_text, refused_text, text}
use Rattle.report.specs.Calls.{reported, says, too_short, told, enough}
use Rattle.report.proofs.One.{one_told}
use Rattle.report.proofs.Reports.{has_room, short_room}
use Rattle.report.proofs.Sizes.{item_size, line_size, index_size, starts_size, hosts_size}

pub refused_size : (a : ℕ × ℕ) → length (refused_text a) ≤ 64
unfolding refused_text
refused_size a =
    let n = item "refused " a.0 in
    let i = cond (eqb a.0 32) (item " " a.1) [] in
    omega (arith, length-append (n ++ i) (word "\n"), length-append n i, item_size "refused " a.0, index_size (eqb a.0 32) a.1)

pub room_enough : (o : Outcome) → InPlaces o → length (outcome_text o) ≤ enough
unfolding outcome_text
room_enough o p =
    let d = line "delta " o.bound in
    let s = starts_text o.starts o.refusals in
    let h = hosts_text o.hosts o.logs in
    let k = line "copies " o.copies in
    omega (
      arith,
      p.hosts,
      p.starts,
      length-append (d ++ s ++ h) k,
      length-append (d ++ s) h,
      length-append d s,
      line_size "delta " o.bound,
      line_size "copies " o.copies,
      starts_size o.starts o.refusals,
      hosts_size o.hosts o.logs p.hosts p.logs,
    )

pub text_size : (a : ℕ × ℕ) (o : Outcome) → InPlaces o → length (text a o) ≤ enough
unfolding text
text_size a o p = go (eqb a.0 0)
  where
    go : (t : Bool) → length (cond t (outcome_text o) (refused_text a)) ≤ enough
    go true = room_enough o p
    go false = omega (arith, refused_size a)

pub never_short : (bs out : List ℕ) → enough ≤ length out → (r : Result ℕ ShortBuffer) → says r ≡ told (reported bs) out
    → r ≡ Ok (length (reported bs))
never_short bs out room r e =
    let l = text_size (answered bs) (outcome_of bs) (outcome_in_places bs) in
    one_told r (Ok (length (reported bs))) e (sym (rw (has_room (reported bs) out (omega arith))))

-- what was written lies within the buffer
pub written_fits : (t out : List ℕ) (n : ℕ) → says (Ok n) ≡ told t out → n ≤ length out
written_fits t out n e = go (too_short t out) refl e
  where
    go : (b : Bool) → too_short t out ≡ b → says (Ok n) ≡ cond b (22, 0) (0, length t) → n ≤ length out
    go true f e = let z : ◌≡◌ {A = ℕ} 0 22 = ap (λ (q : ℕ × ℕ). q.0) e in absurd (omega arith)
    go false f e =
        let m : n ≡ length t = ap (λ (q : ℕ × ℕ). q.1) e in
        let l = short_room t out f in
        omega arith
