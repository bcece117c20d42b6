use Rattle.wire_replies.proofs.RoundTrip.{back}
use Rattle.wire_replies.proofs.replies_round_trip.Goals as goal

-- That what is sent is read back is a theorem of `RoundTrip`.
pub returns : goal.returns
returns c = back
