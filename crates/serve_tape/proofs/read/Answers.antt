use mathlib.Core.Path.{refl, sym}
use Rattle.std.proofs.lemmas.Result.{err_from_is_err_and}
use Rattle.rules.specs.TapeService.{tape_read}
use Rattle.rules.proofs.Served.{refused_by, passed_by, applies, passes, judged}
use Rattle.serve_tape.proofs.read.Goals as goal

pub returns-in_err-judge_held : goal.returns-in_err-judge_held
unfolding tape_read
returns-in_err-judge_held c =
    let p = err_from_is_err_and c.from_residual.result c.from_residual.ensures.1 in
    rw (p.1, p.2) (sym (refused_by _ _ _ _ refl c.in_err-judge_held.ensures), refl)

pub returns-in_err-s : goal.returns-in_err-s
unfolding tape_read
returns-in_err-s c =
    let p = err_from_is_err_and c.from_residual-in_err-s.result c.from_residual-in_err-s.ensures.1 in
    let e = c.in_err-s.ensures in
    rw (p.1, p.2, ← e.0.is)
    (sym (passed_by _ _ _ refl c.in_ok-judge_held.ensures (passes _ _ _ (refl) (applies _ _ e.2))), refl)

pub returns : goal.returns
unfolding tape_read
returns c =
    let e = c.in_ok-s.ensures in
    rw (c.moved_to-next.ensures, ← e.0.is, e.0.image)
    (sym (passed_by _ _ _ refl c.in_ok-judge_held.ensures (passes _ _ _ (refl) (passes _ _ _ e.1 (judged refl)))))
