use native.Mathlib.Omega.{arith}
use mathlib.Core.Path.{refl, sym}
use lib.ListN.{drop}
use Rattle.changer_elements.specs.Slots.{in_drive}
use Rattle.wire_replies.specs.declared.Reply.{Reply}
use Rattle.wire_replies.specs.Fit.{Sendable}
use Rattle.wire_requests.specs.declared.Request.TheVariants as Request
use Rattle.rules.specs.Answer.{held, is_unread, tape_part, with_tape}
use Rattle.rules.specs.TapeService.{Loaded, tape_step}
use Rattle.rules.proofs.Sending.{tape_sends}
use Rattle.call_sending.proofs.Calling.{same_reply}
use Rattle.call_request.proofs.Framing.{body_is}
use Rattle.call_request.proofs.Routing.{accepted_says, call_refused, call_accepted, tape_refuses, tape_accepts}
use Rattle.call_request.proofs.tape_call.Goals as goal

pub serve-requires : goal.serve-requires
serve-requires c = rw (body_is c.args.input.now) c.requires.1

pub finish-requires : goal.finish-requires
finish-requires c =
    let pre = c.requires.0 in (
      record { long = pre.long; room = omega (arith, pre.room) },
      accepted_says (λ (r : Reply) (s : Loaded). Sendable r s.image) _ _ _ (sym c.in-Ok.ensures) (tape_sends _ _ _ _ _ _),
    )

pub refuse-requires : goal.refuse-requires
refuse-requires c = c.requires.0

pub returns-in-Err : goal.returns-in-Err
unfolding is_unread
returns-in-Err c =
    let a = c.args in
    let drive = in_drive a.s.changer.slots in
    let body = drop 28 a.input.now in
    let told = rw (body_is a.input.now) at c.in-Err.ensures in
    λ variables.
    let k = held a.s a.image.now variables in
    rw told.1
    (call_refused k a.time a.input.now (Request.Tape a.q) (with_tape k) (tape_step drive (tape_part k) a.q body) _ refl
    (tape_refuses (tape_part k) drive a.q body _ told.0) (rw c.number.ensures at (c.refuse.ensures a.image.now variables)))

pub returns-in-Ok : goal.returns-in-Ok
returns-in-Ok c =
    let a = c.args in
    let drive = in_drive a.s.changer.slots in
    let body = drop 28 a.input.now in
    let told = rw (body_is a.input.now) at c.in-Ok.ensures in
    λ variables.
    let k = held a.s a.image.now variables in
    call_accepted k a.time a.input.now (Request.Tape a.q) (with_tape k) (tape_step drive (tape_part k) a.q body) _ _ refl refl
    (tape_accepts (tape_part k) drive a.q body _ _ told)
    (same_reply _ _ _ _ _ _ _ _ _ _ _ _ refl c.with_tape-session.ensures (c.finish.ensures.1 _ _))
