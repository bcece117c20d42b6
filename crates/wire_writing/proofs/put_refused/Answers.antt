use native.Mathlib.Omega.{arith}
use Rattle.xdr.specs.Xdr.{be32, be32s}
use Rattle.wire_writing.proofs.Laws.{length_zeros, refused}
use Rattle.wire_writing.proofs.put_refused.Goals as goal

pub put_words-second-requires : goal.put_words-second-requires
put_words-second-requires c = omega (arith, length_zeros c.args.before)

pub put_zero_words-requires : goal.put_zero_words-requires
unfolding be32s be32
put_zero_words-requires c = omega (arith, length_zeros c.args.before)

pub returns : goal.returns
returns c = refused _ _ _
    c.put_zero_words-first.ensures
    c.put_words-second.ensures
    c.put_zero_words.ensures
