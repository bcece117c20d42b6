use Rattle.wire_accounts.proofs.Holds.{accounts_hold}
use Rattle.wire_accounts.proofs.accounts_hold.Goals as goal

-- By the laws of proofs/Holds.antt.
pub returns : goal.returns
returns c = accounts_hold
