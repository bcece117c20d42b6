use native.Mathlib.Omega.{arith}
use lib.ListN.{length-replicate}
use Rattle.xdr.proofs.Laws.{written, length_part}
use Rattle.xdr.proofs.zero_fill.Goals as goal

pub returns : goal.returns
returns c =
    let part = length_part c.args.at c.args.n c.args.out.now c.requires in
    written _ _ _ _ _ (rw part at (c.fill.ensures.after (λ y e. e))) (rw length-replicate (omega arith))
