use Rattle.rules_variables.proofs.Variables as laws
use Rattle.rules_variables.proofs.variables_hold.Goals as goal

-- The theorem is that of `Variables`.
pub returns : goal.returns
returns c = laws.variables_hold
