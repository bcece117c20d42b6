use native.Mathlib.Omega.{arith}
use borrow.Author.Tests.{not-true, not-false}
use Rattle.rules.specs.Answer.{held}
use Rattle.call_rmt.proofs.Commanding.{read_within, told_bad, told_locked, told_known}
use Rattle.call_rmt.proofs.obey.Goals as goal

pub returns-in_default : goal.returns-in_default
returns-in_default c =
    let a = c.args in
    λ variables.
    told_bad (held a.s a.image.now variables) a.command.now c.in_default.ensures (c.refuse.ensures a.image.now variables)

pub returns-then-not-s : goal.returns-then-not-s
returns-then-not-s c =
    let a = c.args in
    λ variables.
    told_locked (held a.s a.image.now variables) a.command.now _ c.in-Some.ensures (not-true _ c.if-not-s.true)
    (c.refuse-then-not-s.ensures a.image.now variables)

pub work-requires : goal.work-requires
work-requires c = (omega (arith, c.requires), rw c.tape_request.ensures (read_within _ _ c.in-Some.ensures))

pub returns : goal.returns
returns c =
    let a = c.args in
    λ variables.
    told_known (held a.s a.image.now variables) a.command.now _ c.in-Some.ensures (not-false _ c.if-not-s.false)
    (rw c.tape_request.ensures at (c.work.ensures variables))
