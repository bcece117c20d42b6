use Rattle.wire_requests.proofs.RoundTrip.{requests_back}
use Rattle.wire_requests.proofs.requests_round_trip.Goals as goal

-- By the law of proofs/RoundTrip.antt.
pub returns : goal.returns
returns c = requests_back
