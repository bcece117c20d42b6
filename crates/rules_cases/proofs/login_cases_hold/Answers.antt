use Rattle.rules_cases.proofs.LoginCases as laws
use Rattle.rules_cases.proofs.login_cases_hold.Goals as goal

-- The cases of logins are a theorem of `LoginCases`.
pub returns : goal.returns
returns c = laws.login_cases_hold
