use Rattle.tape_marks.proofs.Jump.{at_a_glance}
use Rattle.tape_marks.proofs.marks_at_a_glance.Goals as goal

-- By the laws of proofs/Marks.antt and proofs/Jump.antt.
pub returns : goal.returns
returns c = at_a_glance
