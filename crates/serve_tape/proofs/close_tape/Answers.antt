use mathlib.Core.List.{[]}
use mathlib.Core.Path.{refl, sym}
use Rattle.std.proofs.lemmas.Result.{err_from_is_err_and}
use Rattle.rules.specs.TapeService.{tape_close}
use Rattle.rules.proofs.Served.{refused_by, passed_by, judged}
use Rattle.serve_tape.proofs.close_tape.Goals as goal

pub returns-in_err-judge_held : goal.returns-in_err-judge_held
unfolding tape_close
returns-in_err-judge_held c =
    let p = err_from_is_err_and c.from_residual.result c.from_residual.ensures.1 in
    λ l. rw (p.1, p.2) (sym (refused_by _ [] _ _ refl c.in_err-judge_held.ensures), refl)

pub returns : goal.returns
unfolding tape_close
returns c = λ l. sym (passed_by _ [] _ refl c.in_ok-judge_held.ensures (judged refl))
