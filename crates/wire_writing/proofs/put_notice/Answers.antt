use native.Mathlib.Omega.{arith}
use Rattle.wire_writing.proofs.Laws.{notice_sent}
use Rattle.wire_writing.proofs.put_notice.Goals as goal

pub returns : goal.returns
returns c = notice_sent _ _ _ _ _ _ _ _ _ c.put_words-end.ensures (omega arith) (omega arith) c.write.ensures
