use native.Mathlib.Omega.{arith}
use Rattle.xdr.specs.Xdr.{be32, be32s}
use Rattle.wire_replies.specs.Replies.{shape_of}
use Rattle.wire_writing.proofs.Laws.{only, more_words}
use Rattle.wire_writing.proofs.put_mover_state.Goals as goal

pub put_words-first-requires : goal.put_words-first-requires
put_words-first-requires c = let b = c in
    omega (arith, b.requires)

pub put_address-requires : goal.put_address-requires
unfolding be32s be32
put_address-requires c = let b = c in
    omega (arith, b.requires)

pub returns : goal.returns
unfolding shape_of
returns c = let front = c.put_words-first.ensures in
    let w = more_words _ _ front c.put_address.ensures in
    rw (c.high.ensures, c.low.ensures, c.high-2.ensures, c.low-2.ensures, c.high-3.ensures, c.low-3.ensures, c.high-4.ensures, c.low-4.ensures, c.high-5.ensures, c.low-5.ensures) at (only _ w)
