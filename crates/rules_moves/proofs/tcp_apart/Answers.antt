use Rattle.rules_moves.proofs.Apart as laws
use Rattle.rules_moves.proofs.tcp_apart.Goals as goal

-- Each call of one end is a theorem of `Apart`, for every session.
pub returns : goal.returns
returns c = laws.tcp_apart
