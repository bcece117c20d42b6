use Rattle.rules_cases.proofs.ChangerCases as laws
use Rattle.rules_cases.proofs.changer_cases_hold.Goals as goal

-- The calls of a login are a theorem of `ChangerCases`.
pub returns : goal.returns
returns c = laws.changer_cases_hold
