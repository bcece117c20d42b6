use native.Mathlib.Omega.{arith}
use mathlib.Core.Path.{refl}
use mathlib.Core.List.{[]}
use Rattle.wire_replies.specs.declared.Reply.{Reply}
use Rattle.wire_replies.specs.Fit.{Sendable}
use Rattle.wire_requests.specs.declared.Request.TheVariants as Request
use Rattle.rules.specs.Answer.{held, is_unread, with_ends}
use Rattle.rules.specs.Joint.{joint_step}
use Rattle.rules.proofs.Sending.{joint_sends}
use Rattle.call_request.proofs.Routing.{accepted_says, call_refused, call_ended}
use Rattle.call_request.proofs.joint_call.Goals as goal

pub finish-sent-requires : goal.finish-sent-requires
finish-sent-requires c =
    let pre = c.requires in (
      record { long = pre.long; room = omega (arith, pre.room) },
      accepted_says (λ (r : Reply) _. Sendable r []) _ _ _ c.in-Ok.ensures (joint_sends _ _ _ _ _),
    )

pub with_halts-requires : goal.with_halts-requires
with_halts-requires c = (omega (arith, c.finish-sent.ensures.0), omega (arith, c.requires.room))

pub returns-in-Err : goal.returns-in-Err
unfolding is_unread
returns-in-Err c =
    let a = c.args in
    λ image variables.
    let k = held a.s image variables in
    call_refused k a.time a.input.now (Request.Joint a.q) (with_ends k) (joint_step a.s.source a.s.mover a.s.tape a.q a.made) _ refl
    c.in-Err.ensures (rw c.number.ensures at (c.refuse.ensures image variables))

pub returns-in-Ok : goal.returns-in-Ok
returns-in-Ok c =
    let a = c.args in
    λ image variables.
    let k = held a.s image variables in
    let sent = rw (c.with_mover-session.ensures, c.with_source.ensures) at (c.finish-sent.ensures.1 image variables) in
    call_ended k a.time a.input.now (Request.Joint a.q) (with_ends k) (joint_step a.s.source a.s.mover a.s.tape a.q a.made) _ _
    c.in-Ok.ensures (c.with_halts.ensures _ image variables _ sent)
