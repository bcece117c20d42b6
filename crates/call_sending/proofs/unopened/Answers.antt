use mathlib.Core.List.{[]}
use Rattle.call_sending.proofs.Calling.{unsent_as}
use Rattle.call_sending.proofs.unopened.Goals as goal

pub returns : goal.returns
returns c = λ l. unsent_as _ _ _ _ [] [] l c.begins-session.ensures (c.quiet.ensures [] [] l)
