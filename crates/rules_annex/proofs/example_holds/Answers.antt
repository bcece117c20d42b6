use Rattle.rules_annex.proofs.Example as laws
use Rattle.rules_annex.proofs.example_holds.Goals as goal

-- The instance is computed in `Example`.
pub returns : goal.returns
returns c = laws.example_holds
