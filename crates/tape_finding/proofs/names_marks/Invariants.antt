use Rattle.tape_marks.specs.Marks.{words_at}
use Rattle.tape_finding.proofs.Judging.{Judged}
use Rattle.tape_finding.proofs.names_marks.Given as goal

-- What is left of the entries decides, and each way through a turn is a law of proofs/Judging.antt.
abbrev pub invariant-loop-i : goal.invariant-loop-i
invariant-loop-i l = Judged (words_at l.image l.at l.m) l.image l.n l.i l.j
