use Rattle.rules_cases.proofs.RmtCases as laws
use Rattle.rules_cases.proofs.rmt_cases_hold.Goals as goal

-- The cases of commands are a theorem of `RmtCases`.
pub returns : goal.returns
returns c = laws.rmt_cases_hold
