use Rattle.rules_moves.proofs.Cases as laws
use Rattle.rules_moves.proofs.tcp_cases_hold.Goals as goal

-- The cases of ends by TCP are a theorem of `Cases`.
pub returns : goal.returns
returns c = (laws.cases_hold).1
