use Rattle.xdr_opaque.proofs.Laws.{then}
use Rattle.call_rmt.proofs.Commanding.{told_accepted}
use Rattle.call_rmt.proofs.put_told.Goals as goal

pub returns : goal.returns
returns c = told_accepted _ _ _ c.if-outcome-ne0.false (then c.put_accepted-next.ensures c.put_bytes.ensures)
