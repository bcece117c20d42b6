use Rattle.wire_rmt.proofs.Replies.{replies}
use Rattle.wire_rmt.proofs.replies_hold.Goals as goal

-- By the laws of proofs/Replies.antt.
pub returns : goal.returns
returns c = replies
