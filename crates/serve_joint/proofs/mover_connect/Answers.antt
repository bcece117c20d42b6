use mathlib.Core.Path.{refl}
use Rattle.std.proofs.lemmas.Result.{err_from_is_err_and}
use Rattle.xdr.proofs.Tests.{asked}
use Rattle.rules.specs.Joint.{data_awaits, mover_connect}
use Rattle.rules.proofs.Served.{refused_by, passed_by, applies, passes, judged}
use Rattle.serve_joint.proofs.mover_connect.Goals as goal

pub returns-in_err-judge_join : goal.returns-in_err-judge_join
unfolding mover_connect
returns-in_err-judge_join c =
    let p = err_from_is_err_and c.from_residual.result c.from_residual.ensures.1 in
    rw (p.1, p.2, ← c.is_connect_wrong-wrong.ensures) (refused_by _ _ _ _ refl c.in_err-judge_join.ensures)

pub returns-then-is_unmet : goal.returns-then-is_unmet
unfolding mover_connect data_awaits
returns-then-is_unmet c =
    rw (← c.is_connect_wrong-wrong.ensures, ← c.is_awaiting-awaited.ensures)
    (passed_by _ _ _ refl c.in_ok-judge_join.ensures (applies _ _ (asked c.is_unmet.ensures c.if-is_unmet.true)))

pub returns : goal.returns
unfolding mover_connect data_awaits
returns c =
    rw (← c.is_connect_wrong-wrong.ensures, ← c.is_awaiting-awaited.ensures)
    (passed_by _ _ _ refl c.in_ok-judge_join.ensures
    (passes _ _ _ (asked c.is_unmet.ensures c.if-is_unmet.false) (judged (rw c.mover_connected-next.ensures refl))))
