use Rattle.std.specs.Prelude.{Some}
use mathlib.Core.List.{[]}
use mathlib.Core.Path.{refl, ap, ◌∙◌}
use native.Mathlib.Omega.{arith}
use lib.ListN.{length}
use Rattle.rules.specs.Answer.{held}
use Rattle.rules_moves.specs.Events.{stamped}
use Rattle.rules.proofs.Guarding.{guard_goes}
use Rattle.call_moves.proofs.Telling.{to_stopped, to_goes, movable, moved_as}
use Rattle.call_moves.proofs.move_to_tape.Goals as goal

pub returns-in-Err : goal.returns-in-Err
returns-in-Err c = λ variables.
    let a = c.args in
    to_stopped (held a.s a.image.now variables) (stamped a.time (length a.out.now)) a.stream.now a.last _
    (ap Some c.code.ensures ∙ c.in-Err.ensures) (c.unmoved.ensures _ _ _ _)

pub to_tape-mv-requires : goal.to_tape-mv-requires
to_tape-mv-requires c = movable _ _ _ _ c.in_default.ensures c.of.ensures.mover c.of.ensures.tape

pub report-requires : goal.report-requires
report-requires c = omega (arith, (guard_goes _ _ c.in_default.ensures).roomy)

-- The move by its definition, put into the report.
pub returns : goal.returns
returns c = λ variables.
    let a = c.args in
    let k = held a.s a.image.now variables in
    let l = stamped a.time (length a.out.now) in
    let o = c.of.ensures in
    let mv = rw (o.source, o.mover, o.tape) at c.to_tape-mv.ensures in
    to_goes k l a.stream.now a.last c.in_default.ensures
    (moved_as k l c.to_tape-mv.result _ _ _ [] [] _ _ _ _ _ _ mv.is mv.image refl (c.report.ensures a.image.now _ variables []))
