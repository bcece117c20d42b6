use Rattle.wire_accounts.proofs.Laws.{shut, going_first, going_on, going_end}
use Rattle.wire_accounts.proofs.lets_in_by_md5.Goals as goal

pub returns-in_default : goal.returns-in_default
returns-in_default c = shut _ _ c.in_default.ensures

pub loop-account-init : goal.loop-account-init
loop-account-init c = rw c.into_iter-account-iterator.ensures.into_iter_gives (going_first _ c.in-Some.ensures.1)

pub loop-account-preserved : goal.loop-account-preserved
loop-account-preserved c = going_on _ c.loop-account.invariant c.in-Some-account.ensures.steps _ c.md5_matches-some.ensures

pub returns : goal.returns
returns c = going_end _ c.loop-account.invariant c.in-None.ensures.steps.0
