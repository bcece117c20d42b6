use mathlib.Core.Path.{refl}
use Rattle.call_sending.proofs.Calling.{unsent}
use Rattle.call_sending.proofs.quiet.Goals as goal

-- Nothing is sent, and what is passed on is as it was.
pub returns : goal.returns
returns c = λ image variables l. unsent _ _ _ image variables l refl
