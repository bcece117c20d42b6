use Rattle.wire_rmt.proofs.Cases.{cases}
use Rattle.wire_rmt.proofs.rmt_cases.Goals as goal

-- By the laws of proofs.Cases.antt.
pub returns : goal.returns
returns c = cases
