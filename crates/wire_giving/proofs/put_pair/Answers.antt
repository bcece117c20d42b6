use native.Mathlib.Omega.{arith}
use Rattle.xdr_opaque.proofs.Laws.{length_opaque}
use Rattle.wire_pairs.proofs.Giving.{put_pair, length_pair}
use Rattle.wire_giving.proofs.put_pair.Goals as goal

pub put_opaque-next-requires : goal.put_opaque-next-requires
put_opaque-next-requires c = let n = c.args.name.now in
    let v = c.args.value.now in
    (omega (arith, length_pair n v, length_opaque n, length_opaque v), omega arith)

pub put_opaque-requires : goal.put_opaque-requires
put_opaque-requires c = let n = c.args.name.now in
    let v = c.args.value.now in
    (omega (arith, length_pair n v, length_opaque n, length_opaque v, c.put_opaque-next.ensures.end), omega arith)

pub returns : goal.returns
returns c = put_pair _ _ c.put_opaque-next.ensures c.put_opaque.ensures
