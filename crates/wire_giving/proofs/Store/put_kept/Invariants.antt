use Rattle.wire_pairs.specs.Store.{kept_pairs}
use Rattle.wire_pairs.proofs.Giving.{Given}
use Rattle.wire_giving.specs.Kept.{to_come}
use Rattle.wire_giving.proofs.Store.put_kept.Given as goal

-- Invariant: what is written and the pairs that are still to come make the kept pairs.
abbrev pub invariant-loop-name : goal.invariant-loop-name
invariant-loop-name l = Given l.at (kept_pairs l.self.bytes.now) (to_come l.name-iterator) l.initial.out l.next l.out
