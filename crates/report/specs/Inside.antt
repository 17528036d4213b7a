-- What the private writers promise. Assumes nothing.
use Rattle.std.specs.Prelude.{◌≡◌, List, ℕ, ◌+◌, ◌≤◌, length, min}
use Rattle.std.specs.Borrow.{MutBor}
use Rattle.std.proofs.lemmas.List.Edits.{sets}
use Rattle.report.specs.declared.writers.Writer.{Writer}

-- a writer at the front of a buffer
pub record Starts (out : MutBor (List ℕ)) (w : Writer) : Type 0 where
  pub same : w.out.ghost_name ≡ out.ghost_name
  pub whole : w.out.now ≡ out.now
  pub front : w.at ≡ 0

-- no place past this one is counted
abbrev pub last : ℕ
last = 18_446_744_073_709_551_615

-- a writer whose numbers fit in 64 bits, as those of every one do
pub record Counts (w : Writer) : Type 0 where
  pub place : w.at ≤ last
  pub long : length w.out.now ≤ last

-- the bytes were written to a buffer from the writer's place on, so far as there is room, and its place is after them
pub record Wrote (w : Writer) (bytes : List ℕ) (v : Writer) : Type 0 where
  pub same : v.out.ghost_name ≡ w.out.ghost_name
  pub put : Counts w → v.out.now ≡ sets w.out.now w.at bytes
  pub end : Counts w → v.at ≡ min (w.at + length bytes) last
