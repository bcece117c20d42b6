use native.Mathlib.Omega.{arith}
use mathlib.Core.Path.{refl}
use Rattle.wire_replies.specs.declared.Reply.{Reply}
use Rattle.wire_replies.specs.Fit.{Sendable}
use Rattle.wire_requests.specs.declared.Request.TheVariants as Request
use Rattle.rules.specs.Answer.{held, is_unread, tape_part, with_part}
use Rattle.rules.specs.TapeService.{mover_part_step}
use Rattle.rules.proofs.Sending.{mover_sends}
use Rattle.call_request.proofs.Routing.{accepted_says, call_refused, call_accepted, mover_refuses, mover_accepts}
use Rattle.call_request.proofs.mover_call.Goals as goal

pub finish-requires : goal.finish-requires
finish-requires c =
    let pre = c.requires in (
      record { long = pre.long; room = omega (arith, pre.room) },
      accepted_says (λ (r : Reply) _. Sendable r _) _ _ _ c.in-Ok.ensures (mover_sends _ _ _ c.args.addresses.now),
    )

pub returns-in-Err : goal.returns-in-Err
unfolding is_unread
returns-in-Err c =
    let a = c.args in
    let list = a.addresses.now in
    λ image variables.
    let k = held a.s image variables in
    call_refused k a.time a.input.now (Request.Mover a.q) (with_part k list) (mover_part_step (tape_part k) a.q list) _ refl
    (mover_refuses (tape_part k) a.q list _ c.in-Err.ensures) (rw c.number.ensures at (c.refuse.ensures image variables))

pub returns-in-Ok : goal.returns-in-Ok
returns-in-Ok c =
    let a = c.args in
    let list = a.addresses.now in
    λ image variables.
    let k = held a.s image variables in
    call_accepted k a.time a.input.now (Request.Mover a.q) (with_part k list) (mover_part_step (tape_part k) a.q list) _ _ refl refl
    (mover_accepts (tape_part k) a.q list _ _ c.in-Ok.ensures) (rw c.with_mover-session.ensures at (c.finish.ensures.1 image variables))
