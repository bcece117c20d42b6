use Rattle.rules_changer.proofs.Along as laws
use Rattle.rules_changer.proofs.slots_along.Goals as goal

-- The theorem is that of `Along`.
pub returns : goal.returns
returns c = laws.slots_along
