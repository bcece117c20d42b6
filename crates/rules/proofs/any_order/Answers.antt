use Rattle.rules.proofs.Order.{any_order}
use Rattle.rules.proofs.any_order.Goals as goal

-- By the law of proofs/Order.antt.
pub returns : goal.returns
returns c = any_order
