use native.Mathlib.Omega.{arith}
use Rattle.xdr.specs.Xdr.{be32, be32s}
use Rattle.xdr_opaque.proofs.Laws.{length_opaque}
use Rattle.wire_writing.proofs.Laws.{none, whole, text, no_texts}
use Rattle.wire_writing.proofs.put_server_texts.Goals as goal

pub put_opaque-second-requires : goal.put_opaque-second-requires
unfolding be32s be32
put_opaque-second-requires c = (omega arith, omega arith)

pub put_opaque-third-requires : goal.put_opaque-third-requires
unfolding be32s be32
put_opaque-third-requires c = let a = c.args in
    (omega (arith, length_opaque a.vendor.now), omega arith)

pub put_opaque-end-requires : goal.put_opaque-end-requires
unfolding be32s be32
put_opaque-end-requires c = let b = c in
    let a = b.args in
    (omega (arith, length_opaque a.vendor.now, length_opaque a.product.now), omega arith)

pub put_words-requires : goal.put_words-requires
unfolding be32s be32
put_words-requires c = let b = c in
    let a = b.args in
    omega (arith, length_opaque a.vendor.now, length_opaque a.product.now, length_opaque a.revision.now)

pub returns : goal.returns
returns c = let b = c in
    whole _ b.put_words-first.ensures none
    (text _ _ b.put_opaque-second.ensures (text _ _ b.put_opaque-third.ensures
    (text _ _ c.put_opaque-end.ensures no_texts)))
    c.put_words.ensures
