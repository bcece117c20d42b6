use Prim.Native.Nat.{◌≤◌}
use Rattle.tape_marks.specs.Marks.{words_at}
use Rattle.tape_finding.proofs.Halves.{Between, turns}
use Rattle.tape_finding.proofs.marks_before.Given as goal

-- What is asked for lies between low and high, and each turn leaves half of the way between them: laws of proofs/Halves.antt.
abbrev pub invariant-loop-low : goal.invariant-loop-low
invariant-loop-low l = (l.high ≤ l.m) × Between (words_at l.image l.at l.m) l.position l.low l.high

abbrev pub decreases-loop-low : goal.decreases-loop-low
decreases-loop-low l = turns l.low l.high
