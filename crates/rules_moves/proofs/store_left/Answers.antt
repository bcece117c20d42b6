use Rattle.rules_moves.proofs.StoreLeft as laws
use Rattle.rules_moves.proofs.store_left.Goals as goal

-- A theorem of `StoreLeft`.
pub returns : goal.returns
returns c = laws.store_left
