use Rattle.rules_moves.proofs.Sequence as laws
use Rattle.rules_moves.proofs.window_holds.Goals as goal

-- That the window holds is a theorem of `Sequence`, over any sequence of calls.
pub returns : goal.returns
returns c = laws.window_holds
