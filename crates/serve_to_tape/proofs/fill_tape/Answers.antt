use Rattle.rules_moves.specs.Moves.{filling}
use Rattle.tape_ops.proofs.Telling.{telling}
use Rattle.serve_to_tape.proofs.Laws.{told_wrote}
use Rattle.serve_to_tape.proofs.fill_tape.Goals as goal

pub returns : goal.returns
unfolding filling
returns c = search (telling, told_wrote) depth 15
