use Rattle.rules_moves.proofs.Endless.{endless_moves}
use Rattle.rules_moves.proofs.endless_moves.Goals as goal

-- By the laws of proofs/Endless.antt.
pub returns : goal.returns
returns c = endless_moves
