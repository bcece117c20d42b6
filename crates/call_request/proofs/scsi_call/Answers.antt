use native.Mathlib.Omega.{arith}
use mathlib.Core.Path.{refl, sym}
use mathlib.Core.List.{[]}
use lib.ListN.{drop}
use Rattle.wire_replies.specs.declared.Reply.TheVariants as Reply
use Rattle.wire_requests.specs.declared.Request.TheVariants as Request
use Rattle.rules.specs.Answer.{held, is_unread, with_changer}
use Rattle.rules.specs.ScsiService.{scsi_step, scsi_shown}
use Rattle.call_request.proofs.Framing.{body_is}
use Rattle.call_request.proofs.Routing.{call_refused, call_accepted, change_sends, shows_as}
use Rattle.call_request.proofs.scsi_call.Goals as goal

pub serve-requires : goal.serve-requires
serve-requires c = rw (body_is c.args.input.now) c.requires.1

pub finish-requires : goal.finish-requires
finish-requires c =
    let pre = c.requires.0 in
    let told = rw c.in-Ok-Replies.field-0-is at c.in-Ok-Replies.ensures in
    (record { long = pre.long; room = omega (arith, pre.room) }, change_sends _ _ _ _ c.in-Ok-Replies.reply c.in-Ok-Replies.next told)

pub returns-in-Err : goal.returns-in-Err
unfolding is_unread
returns-in-Err c =
    let a = c.args in
    let body = drop 28 a.input.now in
    let told = rw (body_is a.input.now) at c.in-Err.ensures in
    λ image variables.
    let k = held a.s image variables in
    call_refused k a.time a.input.now (Request.Scsi a.q) (with_changer k (scsi_shown a.q body a.s.changer.slots))
    (scsi_step a.s.tape.opened a.s.changer a.q body) _ refl (sym told) (rw c.number.ensures at (c.refuse.ensures image variables))

pub returns-in-Ok-Replies : goal.returns-in-Ok-Replies
returns-in-Ok-Replies c =
    let a = c.args in
    let body = drop 28 a.input.now in
    let told = rw (c.in-Ok-Replies.field-0-is, body_is a.input.now) at c.in-Ok-Replies.ensures in
    λ image variables.
    let k = held a.s image variables in
    call_accepted k a.time a.input.now (Request.Scsi a.q) (with_changer k (scsi_shown a.q body a.s.changer.slots))
    (scsi_step a.s.tape.opened a.s.changer a.q body) _ _ refl refl (sym told.0)
    (shows_as a.input.now a.time c.in-Ok-Replies.reply (with_changer k [] c.in-Ok-Replies.next).kept (sym told.1)
    (rw c.with_changer.ensures at (c.finish.ensures.1 image variables)))

pub returns-in-Ok-Reports : goal.returns-in-Ok-Reports
returns-in-Ok-Reports c =
    let a = c.args in
    let body = drop 28 a.input.now in
    let told = rw (c.in-Ok-Reports.field-0-is, body_is a.input.now) at c.in-Ok-Reports.ensures in
    λ image variables.
    let k = held a.s image variables in
    call_accepted k a.time a.input.now (Request.Scsi a.q) (with_changer k (scsi_shown a.q body a.s.changer.slots))
    (scsi_step a.s.tape.opened a.s.changer a.q body) Reply.Elements a.s.changer refl refl (sym told.0)
    (shows_as a.input.now a.time Reply.Elements k (sym told.1) (c.status_reply.ensures image variables))
