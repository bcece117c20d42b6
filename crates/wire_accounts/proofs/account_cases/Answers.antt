use Rattle.wire_accounts.proofs.Cases.{cases_hold}
use Rattle.wire_accounts.proofs.account_cases.Goals as goal

-- By the cases of proofs/Cases.antt.
pub returns : goal.returns
returns c = cases_hold
