use native.Mathlib.Omega.{arith}
use Rattle.xdr.specs.Xdr.{be32, be32s}
use Rattle.wire_writing.proofs.Laws.{none, whole, text, no_texts, no_words}
use Rattle.wire_writing.proofs.put_read.Goals as goal

pub put_opaque-requires : goal.put_opaque-requires
unfolding be32s be32
put_opaque-requires c = (omega arith, omega arith)

pub returns : goal.returns
returns c = whole _ c.put_words-first.ensures none (text _ _ c.put_opaque.ensures no_texts) no_words
