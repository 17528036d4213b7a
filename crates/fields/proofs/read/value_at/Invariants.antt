-- After i turns x is the number in the first i bytes, of which there are 8 at most; past the end all of them are 0. Assumes nothing.
use mathlib.Core.Path.{◌≡◌}
use Prim.Native.Nat.{◌<◌, ◌^◌}
use Rattle.lists.specs.Bytes.{val_at}
use Rattle.fields.proofs.read.value_at.Given as goal

abbrev pub invariant-loop-i : goal.invariant-loop-i
invariant-loop-i l = (l.x ≡ val_at l.bytes l.at l.i) × (l.x < 256 ^ l.i)
