use Prim.Native.Nat.{◌+◌, ◌-◌}
use Rattle.tape_writing.proofs.Theorems.{Marking}
use Rattle.tape_writing.proofs.write_marks.Given as goal

-- What is left to write from each position on; each turn writes one mark, by a law.
abbrev pub invariant-loop-at : goal.invariant-loop-at
invariant-loop-at l = Marking l.initial.image l.position l.times l.keep l.image l.at (l.position + l.times - l.at)
