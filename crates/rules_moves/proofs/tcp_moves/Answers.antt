use Rattle.rules_moves.proofs.TcpMoves as laws
use Rattle.rules_moves.proofs.tcp_moves.Goals as goal

-- Each move and event is a theorem of `TcpMoves`, for every end, tape and cartridge.
pub returns : goal.returns
returns c = laws.tcp_moves
