use native.Mathlib.Omega.{arith}
use Rattle.xdr.proofs.Laws.{written}
use Rattle.xdr.proofs.copy_bytes.Goals as goal

pub returns : goal.returns
returns c = written _ _ _ _ _ c.copy_from_slice.ensures.after (omega arith)
