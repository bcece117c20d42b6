use native.Mathlib.Omega.{arith}
use Rattle.wire_pairs.proofs.Sizes.{pairs_size}
use Rattle.wire_pairs.proofs.Giving.{given_none, given_more, given_all, given_room, length_pair}
use Rattle.xdr_opaque.proofs.Laws.{length_opaque}
use Rattle.wire_giving.proofs.Store.put_kept.Goals as goal

pub loop-name-init : goal.loop-name-init
loop-name-init c = rw (c.into_iter-name-iterator.ensures.into_iter_gives, c.pairs-name-items.ensures) given_none

pub put_pair-next-requires-clause-room : goal.put_pair-next-requires-clause-room
put_pair-next-requires-clause-room c =
    let g = rw c.in-Some.ensures.steps at c.loop-name.invariant in
    omega (arith, given_room g, pairs_size _ c.args.self.laid)

pub put_pair-next-requires-clause-short : goal.put_pair-next-requires-clause-short
put_pair-next-requires-clause-short c =
    let g = rw c.in-Some.ensures.steps at c.loop-name.invariant in
    let n = c.in-Some.name.now in
    let v = c.in-Some.value.now in
    omega (arith, given_room g, g.wrote.end, pairs_size _ c.args.self.laid, length_pair n v, length_opaque n, length_opaque v, c.args.self.short)

pub loop-name-preserved : goal.loop-name-preserved
loop-name-preserved c = given_more (rw c.in-Some.ensures.steps at c.loop-name.invariant) c.put_pair-next.ensures

pub returns : goal.returns
returns c = given_all c.loop-name.invariant c.in-None.ensures.steps.0
