use native.Mathlib.Omega.{arith}
use mathlib.Core.Path.{refl}
use lib.ListN.{drop}
use Rattle.wire_replies.specs.declared.Reply.{Reply}
use Rattle.wire_replies.specs.Fit.{Sendable}
use Rattle.wire_requests.specs.declared.Request.TheVariants as Request
use Rattle.rules.specs.Answer.{held, is_unread, with_data}
use Rattle.rules.specs.DataService.{data_step}
use Rattle.rules.proofs.Sending.{data_sends}
use Rattle.call_request.proofs.Framing.{body_is}
use Rattle.call_request.proofs.Routing.{accepted_says, call_refused, call_accepted, shown_sends, shown_reply}
use Rattle.call_request.proofs.data_call.Goals as goal

pub serve-requires : goal.serve-requires
serve-requires c = (rw (body_is c.args.input.now) c.requires.1, c.requires.2)

pub finish-requires : goal.finish-requires
finish-requires c =
    let a = c.args in
    let pre = c.requires in
    let list = a.addresses.now in
    let v = a.variables.now in
    let told = c.in-Ok.ensures in
    let sends = data_sends a.s.source a.q _ list v (omega (arith, pre.2)) in (
      record { long = pre.0.long; room = omega (arith, pre.0.room) },
      rw c.shown_of-shown.ensures (shown_sends a.q _ list v _ told.1 _ (accepted_says (λ (r : Reply) _. Sendable r _) _ _ _ told.0 sends)),
    )

pub refuse-requires : goal.refuse-requires
refuse-requires c = c.requires.0

pub returns-in-Err : goal.returns-in-Err
unfolding is_unread
returns-in-Err c =
    let a = c.args in
    let list = a.addresses.now in
    let v = a.variables.now in
    let body = drop 28 a.input.now in
    let told = rw (body_is a.input.now) at c.in-Err.ensures in
    λ image.
    let k = held a.s image v in
    rw told.1
    (call_refused k a.time a.input.now (Request.Data a.q) (with_data k a.q body list) (data_step a.s.source a.q body list v) _ refl told.0
    (rw c.number.ensures at (c.refuse.ensures image v)))

pub returns-in-Ok : goal.returns-in-Ok
returns-in-Ok c =
    let a = c.args in
    let list = a.addresses.now in
    let v = a.variables.now in
    let body = drop 28 a.input.now in
    let told = rw (body_is a.input.now) at c.in-Ok.ensures in
    λ image.
    let k = held a.s image v in
    call_accepted k a.time a.input.now (Request.Data a.q) (with_data k a.q body list) (data_step a.s.source a.q body list v) _ _ refl refl told.0
    (shown_reply a.q body list v _ told.1 a.input.now a.time _ image _ _ _ _ _ c.with_source-session.ensures
    (rw c.shown_of-shown.ensures at (c.finish.ensures.1 image c.serve.new.variables)))
