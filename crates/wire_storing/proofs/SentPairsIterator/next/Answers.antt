use native.Mathlib.Omega.{arith}
use Rattle.wire_pairs.proofs.Storing.{pairs_next, pairs_none}
use Rattle.wire_storing.proofs.SentPairsIterator.next.Goals as goal

pub returns-then-self-eq0-clause-steps : goal.returns-then-self-eq0-clause-steps
returns-then-self-eq0-clause-steps c = (pairs_none _ _ _ (omega arith), pairs_none _ _ _ (omega arith))

pub returns-clause-steps : goal.returns-clause-steps
returns-clause-steps c = let s = c.args.self.now in
    let e = pairs_next s.body.now s.left s.at (omega arith) in
    cc
