use Rattle.rules_moves.proofs.Cases as laws
use Rattle.rules_moves.proofs.recover_cases_hold.Goals as goal

-- The second list of cases is a theorem of `Cases`.
pub returns : goal.returns
returns c = (laws.cases_hold).0
