use Rattle.call_sending.proofs.Calling.{not_noticed}
use Rattle.call_request.proofs.with_halts.Goals as goal

-- With no reason for either neither is noticed.
pub returns-then-mwhy-eq0 : goal.returns-then-mwhy-eq0
returns-then-mwhy-eq0 c = λ a image variables l t. not_noticed _ _ _ _ _ image variables l _ c.if-mwhy-eq0.true
    (not_noticed _ _ _ a _ image variables l _ c.if-dwhy-eq0.true t)

pub returns : goal.returns
returns c = c.halts.ensures.1
