use native.Mathlib.Omega.{arith}
use Rattle.call_sending.proofs.Calling.{not_noticed, also_noticed}
use Rattle.call_sending.proofs.notify.Goals as goal

-- With no reason nothing is written; with one the notice stands behind what was sent.
pub returns-then-why-eq0 : goal.returns-then-why-eq0
returns-then-why-eq0 c = (omega arith, λ a image variables l t. not_noticed _ _ _ a _ image variables l _ c.if-why-eq0.true t)

pub returns : goal.returns
returns c = (
  c.write_notice-len.ensures.small,
  λ a image variables l t. also_noticed _ _ _ a _ image variables l _ _ _ _ c.if-why-eq0.false
      t c.write_notice-len.ensures.put c.after_message-session.ensures,
)
