use Rattle.tape_thinning.proofs.Laws.{Copying}
use Rattle.tape_thinning.proofs.copy_files.Given as goal

-- What is written and what is left to write are the whole; each turn is one law.
abbrev pub invariant-loop-i : goal.invariant-loop-i
invariant-loop-i l = Copying l.source l.numbers l.initial.image l.i l.walk.file l.walk.next l.image l.at
