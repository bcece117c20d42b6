use Rattle.rules.proofs.Rmt.{rmt_holds}
use Rattle.rules.proofs.rmt_holds.Goals as goal

-- By the law of proofs/Rmt.antt.
pub returns : goal.returns
returns c = rmt_holds
