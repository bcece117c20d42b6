use Rattle.wire_pairs.proofs.Cases.{cases_hold}
use Rattle.wire_pairs.proofs.store_cases.Goals as goal

-- By the cases of proofs/Cases.antt.
pub returns : goal.returns
returns c = cases_hold
