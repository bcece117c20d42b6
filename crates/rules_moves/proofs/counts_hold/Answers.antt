use Rattle.rules_moves.proofs.Counts as laws
use Rattle.rules_moves.proofs.counts_hold.Goals as goal

-- The counts are a theorem of `Counts`, over any sequence of moves.
pub returns : goal.returns
returns c = laws.counts_hold
