use native.Mathlib.Omega.{arith}
use Rattle.rules.specs.Answer.{held}
use Rattle.call_rmt.proofs.Commanding.{work_refused, work_accepted, work_sends}
use Rattle.call_rmt.proofs.work.Goals as goal

pub tell-requires : goal.tell-requires
tell-requires c = (omega (arith, c.requires.0), work_sends _ _ _ _ _ _ _ _ _ c.in-Ok.ensures)

pub returns-in-Err : goal.returns-in-Err
returns-in-Err c =
    let a = c.args in
    let told = c.in-Err.ensures in
    λ variables.
    let k = held a.s a.image.now variables in
    rw told.1 (work_refused k a.command.now a.q _ told.0 (c.refuse.ensures a.image.now variables))

pub returns-in-Ok : goal.returns-in-Ok
returns-in-Ok c =
    let a = c.args in
    λ variables.
    let k = held a.s a.image.now variables in
    work_accepted k a.command.now a.q _ _ c.in-Ok.ensures c.with_tape.ensures (c.tell.ensures variables)
