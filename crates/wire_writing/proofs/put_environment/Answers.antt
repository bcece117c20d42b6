use native.Mathlib.Omega.{arith}
use Rattle.xdr.specs.Xdr.{be32, be32s}
use Rattle.wire_writing.proofs.Laws.{counted}
use Rattle.wire_writing.proofs.put_environment.Goals as goal

pub put_pairs-requires : goal.put_pairs-requires
unfolding be32s be32
put_pairs-requires c = omega arith

pub returns : goal.returns
returns c = rw (← c.new-kept.ensures) (counted _ _ c.count.ensures c.put_words-first.ensures c.put_pairs.ensures)
