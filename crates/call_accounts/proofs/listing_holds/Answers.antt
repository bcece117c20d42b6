use Rattle.call_accounts.proofs.Holds.{listing_holds}
use Rattle.call_accounts.proofs.listing_holds.Goals as goal

-- By the laws of proofs/Holds.antt.
pub returns : goal.returns
returns c = listing_holds
