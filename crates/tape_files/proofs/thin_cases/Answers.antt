use Rattle.tape_files.proofs.Cases.{cases_hold}
use Rattle.tape_files.proofs.thin_cases.Goals as goal

-- By proofs/Cases.antt.
pub returns : goal.returns
returns c = cases_hold
