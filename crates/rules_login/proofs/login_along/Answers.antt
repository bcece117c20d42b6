use Rattle.rules_login.proofs.Along as laws
use Rattle.rules_login.proofs.login_along.Goals as goal

-- The theorem is that of `Along`.
pub returns : goal.returns
returns c = laws.login_along
