use Rattle.call_sending.proofs.Calling.{unsent}
use Rattle.call_sending.proofs.shut.Goals as goal

pub returns : goal.returns
returns c = λ image variables l. unsent _ _ _ image variables l c.shuts.ensures
