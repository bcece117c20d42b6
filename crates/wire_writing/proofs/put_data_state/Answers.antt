use native.Mathlib.Omega.{arith}
use Rattle.xdr.specs.Xdr.{be32, be32s}
use Rattle.xdr.proofs.Laws.{length_be32s}
use Rattle.wire_replies.specs.Replies.{shape_of, address_words}
use Rattle.wire_replies.proofs.Laws.{address_short}
use Rattle.wire_writing.proofs.Laws.{only, more_words}
use Rattle.wire_writing.proofs.put_data_state.Goals as goal

pub put_address-second-requires : goal.put_address-second-requires
unfolding be32s be32
put_address-second-requires c = omega arith

pub put_words-requires : goal.put_words-requires
unfolding be32s be32
put_words-requires c = let b = c in
    let a = b.args.v.address in
    omega (arith, length_be32s (address_words a), address_short a)

pub returns : goal.returns
unfolding shape_of
returns c = let b = c in
    let front = b.put_words-first.ensures in
    let w = more_words _ _ front (more_words _ _ b.put_address-second.ensures c.put_words.ensures) in
    rw (c.high.ensures, c.low.ensures) at (only _ w)
