use Rattle.tape_files.proofs.Holds.{thinning_holds}
use Rattle.tape_files.proofs.thinning_holds.Goals as goal

-- By proofs/Holds.antt.
pub returns : goal.returns
returns c = thinning_holds
