-- What is still to be stored, put upon what is there, is the whole. Assumes nothing.
use native.Mathlib.Omega.{arith}
use mathlib.Core.Path.{sym, ap, ◌∙◌}
use lib.Seq.{sets}
use Rattle.lists.proofs.ByteLaws.{be_none}
use Rattle.fields.proofs.Placing.{sets_last}
use Rattle.fields.proofs.write.store.Goals as goal

pub loop-i-preserved : goal.loop-i-preserved
loop-i-preserved c =
    let s = c.loop-i in
    sets_last s.out c.args.at s.i s.left (omega arith) ∙ s.invariant

pub returns : goal.returns
returns c =
    let s = c.loop-i in
    ap (sets s.out c.args.at) (sym (be_none s.i s.left (omega arith))) ∙ s.invariant
