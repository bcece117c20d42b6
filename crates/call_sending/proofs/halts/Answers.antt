use native.Mathlib.Omega.{arith}
use Rattle.call_sending.proofs.halts.Goals as goal

pub returns : goal.returns
returns c = let first = c.notify-told.ensures in
    let second = c.notify.ensures in
    (omega (arith, first.0, second.0), λ a image variables l t. second.1 _ image variables l (first.1 a image variables l t))
