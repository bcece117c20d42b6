use Rattle.rules.proofs.Leaving.{calls_leave}
use Rattle.rules.proofs.calls_leave.Goals as goal

-- By the law of proofs/Leaving.antt.
pub returns : goal.returns
returns c = calls_leave
