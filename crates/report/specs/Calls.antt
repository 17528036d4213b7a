-- What the report answers, and what it leaves in the lent buffer (01, "Refusal numbers"). Assumes nothing.
use Rattle.std.specs.Prelude.{Result, Ok, Err, Bool, cond, List, ◌++◌, ℕ, ltb, length, drop}
use Rattle.schedule.specs.Calls.{answered}
use Rattle.engine.specs.Calls.{outcome_of}
use Rattle.report.specs.declared.ShortBuffer.{ShortBuffer}
use Rattle.report.specs.Text.{text}

-- the text of what a replay of these bytes answers and leaves
abbrev pub reported : List ℕ → List ℕ
reported bs = text (answered bs) (outcome_of bs)

-- the paper's number, and how many bytes were written
abbrev pub says : Result ℕ ShortBuffer → ℕ × ℕ
says (Ok n) = (0, n)
says (Err e) = (22, 0)

-- 22: "the lent buffer is too short for all that is .. written"
unfoldable pub too_short : List ℕ → List ℕ → Bool
too_short written out = ltb (length out) (length written)

-- "A refusal returns its number and zero elsewhere"
abbrev pub told : List ℕ → List ℕ → ℕ × ℕ
told written out = cond (too_short written out) (22, 0) (0, length written)

-- the text from the first byte on, and on a refusal the buffer as it was
abbrev pub left : List ℕ → List ℕ → List ℕ
left written out = cond (too_short written out) out (written ++ drop (length written) out)

-- so many bytes are enough for every report: with each number but a host's at 20 digits, 16 starts and 128 deliveries come to 18,103
abbrev pub enough : ℕ
enough = 20480
