use Rattle.call_accounts.proofs.Cases.{cases_hold}
use Rattle.call_accounts.proofs.listing_cases.Goals as goal

-- By the cases of proofs/Cases.antt.
pub returns : goal.returns
returns c = cases_hold
