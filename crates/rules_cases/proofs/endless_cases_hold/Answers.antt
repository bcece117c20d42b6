use Rattle.rules_cases.proofs.Cases as laws
use Rattle.rules_cases.proofs.endless_cases_hold.Goals as goal

-- The cases of windows with no end are a theorem of `Cases`.
pub returns : goal.returns
returns c = (laws.cases_hold).2
