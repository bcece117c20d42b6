use Rattle.call_rmt.proofs.Commanding.{said_told}
use Rattle.call_rmt.proofs.tell.Goals as goal

pub returns : goal.returns
returns c = λ variables. said_told _ _ _ _ variables _ _ c.put_reply-len.ensures
