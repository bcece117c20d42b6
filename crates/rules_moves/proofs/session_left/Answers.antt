use Rattle.rules_moves.proofs.SessionLeft as laws
use Rattle.rules_moves.proofs.session_left.Goals as goal

-- A theorem of `SessionLeft`.
pub returns : goal.returns
returns c = laws.session_left
