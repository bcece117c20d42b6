use native.Mathlib.Omega.{arith}
use mathlib.Core.Path.{refl, sym, ap}
use Rattle.rules.specs.Answer.{held, with_login}
use Rattle.rules.specs.Served.{outcome_of}
use Rattle.call_request.specs.Call.{Sends}
use Rattle.call_request.proofs.Routing.{accepted_says, call_refused, call_accepted}
use Rattle.call_request.proofs.login_call.Goals as goal

pub finish-requires : goal.finish-requires
finish-requires c =
    let a = c.args in
    let pre = c.requires in
    (record { long = pre.0.long; room = omega (arith, pre.0.room) }, accepted_says (Sends a.shown.now) _ _ _ (ap outcome_of (sym c.in-Ok.is)) pre.1)

pub returns-in-Err : goal.returns-in-Err
returns-in-Err c =
    let a = c.args in
    λ image variables q u.
    let k = held a.s image variables in
    call_refused k a.time a.input.now q (with_login k a.shown.now) (outcome_of a.done) _ u (ap outcome_of (sym c.in-Err.is))
    (rw c.number.ensures at (c.refuse.ensures image variables))

pub returns-in-Ok : goal.returns-in-Ok
returns-in-Ok c =
    let a = c.args in
    λ image variables q u.
    let k = held a.s image variables in
    call_accepted k a.time a.input.now q (with_login k a.shown.now) (outcome_of a.done) _ _ refl refl (ap outcome_of (sym c.in-Ok.is))
    (rw c.with_login-session.ensures at (c.finish.ensures.1 image variables))
