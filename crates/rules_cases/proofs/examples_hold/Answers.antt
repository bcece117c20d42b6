use Rattle.rules_cases.proofs.Cases as laws
use Rattle.rules_cases.proofs.examples_hold.Goals as goal

-- The examples of paper 01 are a theorem of `Cases`.
pub returns : goal.returns
returns c = (laws.cases_hold).0
