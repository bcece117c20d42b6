use mathlib.Core.List.{[]}
use mathlib.Core.Path.{refl}
use Rattle.std.proofs.lemmas.Result.{err_from_is_err_and}
use Rattle.rules.specs.Judge.{judge}
use Rattle.rules.specs.MoverService.{mover_listen}
use Rattle.rules.proofs.Served.{refused_by, passed_by}
use Rattle.serve_mover.proofs.listen.Goals as goal

pub returns-in_err-judge_join : goal.returns-in_err-judge_join
unfolding mover_listen
returns-in_err-judge_join c =
    let p = err_from_is_err_and c.from_residual.result c.from_residual.ensures.1 in
    rw (p.1, p.2, ← c.is_listen_wrong-wrong.ensures) (refused_by _ [] _ _ refl c.in_err-judge_join.ensures)

pub returns : goal.returns
unfolding mover_listen judge
returns c =
    rw (← c.is_listen_wrong-wrong.ensures)
    (passed_by _ [] _ refl c.in_ok-judge_join.ensures (rw (c.listening-reply.ensures, c.listens-next.ensures) refl))
