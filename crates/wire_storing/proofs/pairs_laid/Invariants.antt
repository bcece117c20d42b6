use Prim.Native.Nat.{◌+◌, ◌-◌, ◌*◌, ◌≤◌}
use mathlib.Core.Path.{◌≡◌}
use Rattle.wire_pairs.specs.Store.{laid_from}
use Rattle.wire_storing.proofs.pairs_laid.Given as goal

-- Invariant: the pairs that are left, judged from where the loop stands, come to what all come to.
abbrev pub invariant-loop-i : goal.invariant-loop-i
invariant-loop-i l =
    record {
      words : l.at ≡ 4 + 16 * l.i;
      texts : l.sum ≤ l.i * 0x2_0000_0000;
      judged : laid_from l.store l.count 4 0 ≡ laid_from l.store (l.count - l.i) l.at l.sum;
    }
