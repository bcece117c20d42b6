use Rattle.std.specs.Prelude.{Some}
use mathlib.Core.Path.{ap, ◌∙◌}
use native.Mathlib.Omega.{arith}
use lib.ListN.{length}
use Rattle.rules.specs.Answer.{held}
use Rattle.rules.proofs.Guarding.{guard_goes}
use Rattle.call_rmt.proofs.Commanding.{command_stopped, command_goes}
use Rattle.call_rmt.proofs.rmt.Goals as goal

pub returns-in-Err : goal.returns-in-Err
returns-in-Err c = let a = c.args in
    λ variables.
    command_stopped (held a.s a.image.now variables) (length a.out.now) a.command.now _
    (ap Some c.code.ensures ∙ c.in-Err.ensures) (c.quiet.ensures _ _ _)

pub obey-requires : goal.obey-requires
obey-requires c = let g = guard_goes _ _ c.in_default.ensures in
    omega (arith, g.roomy)

pub returns : goal.returns
returns c = let c7 = c in
    let a = c7.args in
    λ variables.
    command_goes (held a.s a.image.now variables) (length a.out.now) a.command.now
    c7.in_default.ensures (c.obey.ensures variables)
