use Rattle.rules.proofs.Services.{services_are}
use Rattle.rules.proofs.services_are.Goals as goal

-- By the law of proofs/Services.antt.
pub returns : goal.returns
returns c = services_are
