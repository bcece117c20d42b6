use Rattle.rules_moves.proofs.FirstSize as laws
use Rattle.rules_moves.proofs.first_size.Goals as goal

-- The record size from a fresh session on is a theorem of `FirstSize`, for every sequence of calls.
pub returns : goal.returns
returns c = laws.first_size
