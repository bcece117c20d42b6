use Rattle.xdr_opaque.proofs.RoundTrip.{opaque_back}
use Rattle.xdr_opaque.proofs.opaque_round_trip.Goals as goal

-- By the law of proofs/RoundTrip.antt.
pub returns : goal.returns
returns c = opaque_back
