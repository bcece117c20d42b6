use Rattle.call_sending.proofs.Calling.{unsent}
use mathlib.Core.Path.{refl}
use Rattle.call_moves.proofs.unmoved.Goals as goal

-- Nothing is sent and nothing moves.
pub returns : goal.returns
returns c = λ image variables dest l. record { call = unsent _ _ _ image variables l refl; count = refl; dest = refl }
