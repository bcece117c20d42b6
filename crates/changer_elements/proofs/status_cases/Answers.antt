use Rattle.changer_elements.proofs.StatusCases.{cases_hold}
use Rattle.changer_elements.proofs.status_cases.Goals as goal

-- By proofs/StatusCases.antt.
pub returns : goal.returns
returns c = cases_hold
