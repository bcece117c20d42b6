use Prim.Native.Nat.{◌-◌}
use lib.ListN.{length, drop}
use Rattle.hex_text.proofs.Laws.{Reading}
use Rattle.hex_text.proofs.decode.Given as goal

-- What the whole text holds is the bytes in front of the output, then what is left from i on holds, in the room that is left.
abbrev pub invariant-loop-i : goal.invariant-loop-i
invariant-loop-i l = Reading l.text (length l.fn.out) l.out (drop l.i l.text) l.n

abbrev pub decreases-loop-i : goal.decreases-loop-i
decreases-loop-i l = length l.text - l.i
