use Rattle.rules.proofs.Calls.{calls_keep}
use Rattle.rules.proofs.calls_keep.Goals as goal

-- By the laws of proofs/Calls.antt.
pub returns : goal.returns
returns c = calls_keep
