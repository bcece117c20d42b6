use Rattle.call_rmt.proofs.Commanding.{said_told}
use Rattle.call_rmt.proofs.refuse.Goals as goal

pub returns : goal.returns
returns c = λ image variables. said_told _ _ _ image variables _ _ (rw c.number.ensures at c.put_refused-len.ensures)
