use Rattle.rules.proofs.Alike.{spaces_alike}
use Rattle.rules.proofs.spaces_alike.Goals as goal

-- By the law of proofs/Alike.antt.
pub returns : goal.returns
returns c = spaces_alike
