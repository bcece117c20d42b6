use mathlib.Core.Path.{◌≡◌}
use lib.ListN.{length}
use Rattle.wire_rmt_writing.proofs.Laws.{Going}
use Rattle.wire_rmt_writing.proofs.put_decimal.Given as goal

-- Invariant: the digits from the i-th on are written.
abbrev pub invariant-loop-i : goal.invariant-loop-i
invariant-loop-i l = (length l.out ≡ length l.initial.out) × Going l.v l.at l.i l.left l.initial.out l.out
