use Rattle.tape_marks.proofs.Cases.{mark_cases}
use Rattle.tape_marks.proofs.mark_cases.Goals as goal

-- By proofs/Cases.antt.
pub returns : goal.returns
returns c = mark_cases
