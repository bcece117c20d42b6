use Rattle.rules_cases.proofs.KnownSession as laws
use Rattle.rules_cases.proofs.known_session_holds.Goals as goal

-- The calls of a login are a theorem of `KnownSession`.
pub returns : goal.returns
returns c = laws.known_session_holds
