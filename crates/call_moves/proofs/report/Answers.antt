use mathlib.Core.Path.{refl}
use Rattle.call_moves.proofs.report.Goals as goal

pub returns : goal.returns
returns c = λ before image variables dest. record { call = c.announce-sent.ensures before image variables; count = refl; dest = refl }
