use native.Mathlib.Omega.{arith}
use Rattle.xdr.specs.Xdr.{be32, be32s}
use Rattle.wire_writing.proofs.Laws.{whole, no_texts, no_words}
use Rattle.wire_writing.proofs.put_lent.Goals as goal

pub put_bytes-requires : goal.put_bytes-requires
unfolding be32s be32
put_bytes-requires c = omega arith

pub returns : goal.returns
returns c = whole _ c.put_words-first.ensures c.put_bytes.ensures no_texts no_words
