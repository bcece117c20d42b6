use mathlib.Core.Path.{◌≡◌}
use lib.ListN.{length, take}
use Rattle.xdr.specs.Xdr.{be32s, overlay}
use Rattle.xdr.proofs.write_words.Given as goal

-- The words before i are written, and the rest is as it was.
abbrev pub invariant-loop-i : goal.invariant-loop-i
invariant-loop-i l = (length l.out ≡ length l.initial.out) × (l.out ≡ overlay l.at (be32s (take l.i l.ws)) l.initial.out)
