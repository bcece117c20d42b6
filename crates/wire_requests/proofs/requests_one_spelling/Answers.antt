use Rattle.wire_requests.proofs.Spelling.{requests_spelled}
use Rattle.wire_requests.proofs.requests_one_spelling.Goals as goal

-- The statement, proved in Spelling by the laws of every layout.
pub returns : goal.returns
returns c = requests_spelled
