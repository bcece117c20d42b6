use Rattle.rules_moves.proofs.Modes as laws
use Rattle.rules_moves.proofs.each_its_mode.Goals as goal

-- Each call in the other's mode is a theorem of `Modes`, for every session.
pub returns : goal.returns
returns c = laws.each_its_mode
