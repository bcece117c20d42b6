use Rattle.tape_spacing.proofs.Alike.{spacing_alike}
use Rattle.tape_spacing.proofs.spacing_alike.Goals as goal

-- By the law of proofs/Alike.antt.
pub returns : goal.returns
returns c = spacing_alike
