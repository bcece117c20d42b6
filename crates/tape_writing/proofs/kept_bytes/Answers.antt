use native.Mathlib.Omega.{arith}
use Rattle.tape_writing.proofs.Laws.{keeps_cut, keeps_end}
use Rattle.tape_writing.proofs.kept_bytes.Goals as goal

pub returns-then-position-count : goal.returns-then-position-count
returns-then-position-count c = keeps_cut _ _ _ c.requires (omega arith) (cc)

pub returns-else-position-count : goal.returns-else-position-count
returns-else-position-count c = keeps_end _ _ _ c.requires (omega arith) (cc)
