use Rattle.std.specs.Int.{from_bool}
use Rattle.tape_thinning.proofs.Laws.{Measuring}
use Rattle.tape_thinning.proofs.measure.Given as goal

-- What is counted and what is left to count are the whole; each turn is one law.
abbrev pub invariant-loop-i : goal.invariant-loop-i
invariant-loop-i l = Measuring l.source l.numbers l.i l.walk.file (from_bool l.begun) l.walk.next l.entries l.bytes
