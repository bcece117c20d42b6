use Rattle.rules.proofs.Windows.{promises}
use Rattle.rules.proofs.promises_hold.Goals as goal

-- By the laws of proofs/Windows.antt.
pub returns : goal.returns
returns c = promises
