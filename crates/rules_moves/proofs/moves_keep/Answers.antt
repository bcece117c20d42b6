use Rattle.rules_moves.proofs.Sequence as laws
use Rattle.rules_moves.proofs.moves_keep.Goals as goal

-- What moves keep is a theorem of `Sequence`, over any sequence of calls.
pub returns : goal.returns
returns c = laws.moves_keep
