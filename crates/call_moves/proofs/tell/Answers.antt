use Rattle.std.specs.Prelude.{Some}
use mathlib.Core.Path.{ap, ◌∙◌}
use native.Mathlib.Omega.{arith}
use lib.ListN.{length}
use Rattle.rules.specs.Answer.{held}
use Rattle.rules_moves.specs.Events.{stamped}
use Rattle.rules.proofs.Guarding.{guard_goes}
use Rattle.call_moves.proofs.Telling.{event_stopped, event_goes}
use Rattle.call_moves.proofs.tell.Goals as goal

pub returns-in-Err : goal.returns-in-Err
returns-in-Err c = λ image variables.
    let a = c.args in
    event_stopped (held a.s image variables) (stamped a.time (length a.out.now)) a.mv _
    (ap Some c.code.ensures ∙ c.in-Err.ensures) (c.quiet.ensures _ _ _)

pub announce-requires : goal.announce-requires
announce-requires c = let g = guard_goes _ _ c.in_default.ensures in
    omega (arith, g.roomy)

pub returns : goal.returns
returns c = let c4 = c in
    λ image variables.
    let a = c4.args in
    event_goes (held a.s image variables) (stamped a.time (length a.out.now)) a.mv
    c.in_default.ensures
    (c.announce.ensures image image variables)
