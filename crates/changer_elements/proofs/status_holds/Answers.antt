use Rattle.changer_elements.proofs.StatusHolds.{status_holds}
use Rattle.changer_elements.proofs.status_holds.Goals as goal

-- By proofs/StatusHolds.antt.
pub returns : goal.returns
returns c = status_holds
