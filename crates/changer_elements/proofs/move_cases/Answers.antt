use Rattle.changer_elements.proofs.MoveCases.{cases_hold}
use Rattle.changer_elements.proofs.move_cases.Goals as goal

-- By proofs/MoveCases.antt.
pub returns : goal.returns
returns c = cases_hold
