use mathlib.Core.Path.{sym, ◌∙◌}
use native.Mathlib.Omega.{arith}
use Rattle.tape_writing.proofs.Theorems.{mark_step, marks_none}
use Rattle.tape_writing.proofs.write_marks.Goals as goal

pub loop-at-preserved : goal.loop-at-preserved
loop-at-preserved c = mark_step _ _ _ _ _ _ _ _ _ c.loop-at.invariant (omega arith) (cc)

pub shape_of-image : goal.shape_of-image
shape_of-image c = c.loop-at.invariant.long

pub returns : goal.returns
returns c = sym (c.loop-at.invariant.rest ∙ marks_none _ _ _ (omega arith))
