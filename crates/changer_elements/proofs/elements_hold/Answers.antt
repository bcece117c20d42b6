use Rattle.changer_elements.proofs.MovesHold.{elements_hold}
use Rattle.changer_elements.proofs.elements_hold.Goals as goal

-- By proofs/MovesHold.antt.
pub returns : goal.returns
returns c = elements_hold
