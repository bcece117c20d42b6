use native.Mathlib.Omega.{arith}
use Rattle.std.specs.Prelude.{Some}
use mathlib.Core.Path.{ap, sym, ◌∙◌}
use Rattle.rules.specs.Answer.{held, requested}
use Rattle.rules.proofs.Guarding.{guard_goes}
use Rattle.call_sending.proofs.Calling.{call_if, call_else}
use Rattle.call_request.specs.Call.{lent}
use Rattle.call_request.proofs.Framing.{frame_broken, frame_other, frame_request}
use Rattle.call_request.proofs.Routing.{call_stopped, call_goes, room_is, room_there}
use Rattle.call_request.proofs.request.Goals as goal

pub returns-in-Err : goal.returns-in-Err
returns-in-Err c = let c8 = c in
    let a = c8.args in
    let k = held a.s a.image.now a.variables.now in
    let l = lent a.accounts.now a.challenge.now a.addresses.now a.made a.time a.out.now in
    call_stopped k l a.input.now _ (room_is k l c.room_of-room.ensures) _
    (ap Some c.code.ensures ∙ c.in-Err.ensures)
    (c.quiet.ensures _ _ _)

pub framed_call-requires : goal.framed_call-requires
framed_call-requires c = let c8 = c in
    let c16 = c8 in
    let a = c16.args in
    let k = held a.s a.image.now a.variables.now in
    let l = lent a.accounts.now a.challenge.now a.addresses.now a.made a.time a.out.now in
    let f = sym c.in-Ok.is ∙
    c.read_frame.ensures.read in
    let g = guard_goes _ _ c.in_default.ensures in
    let there = room_there k l (room_is k l c8.room_of-room.ensures) g.roomy in
    (record { long = omega (arith, c.in-Ok.ensures.whole); room = omega (arith, there.0) }, (frame_request _ _ f).2, there.1)

pub returns-in-Err-Broken : goal.returns-in-Err-Broken
returns-in-Err-Broken c = let c8 = c in
    let a = c8.args in
    let k = held a.s a.image.now a.variables.now in
    let l = lent a.accounts.now a.challenge.now a.addresses.now a.made a.time a.out.now in
    call_goes k l a.input.now _ (room_is k l
    c.room_of-room.ensures)
    c.in_default.ensures
    (call_else _ (frame_broken _ (rw c.in-Err-Broken.field-0-is at (sym c.in-Err-Broken.is ∙
    c.read_frame.ensures.read))) (c.shut.ensures _ _ _))

pub returns-in-Err-NotRequest : goal.returns-in-Err-NotRequest
unfolding requested
returns-in-Err-NotRequest c = let c8 = c in
    let a = c8.args in
    let k = held a.s a.image.now a.variables.now in
    let l = lent a.accounts.now a.challenge.now a.addresses.now a.made a.time a.out.now in
    let f = frame_other _ (rw c.in-Err-NotRequest.field-0-is at (sym c.in-Err-NotRequest.is ∙ c.read_frame.ensures.read)) in
    call_goes k l a.input.now _ (room_is k l
    c.room_of-room.ensures)
    c.in_default.ensures
    (call_if _ f.0 (call_if _ f.1 (c.quiet-in-Err-NotRequest.ensures _ _ _)))

pub returns-in-Ok : goal.returns-in-Ok
unfolding requested
returns-in-Ok c = let c8 = c in
    let c16 = c8 in
    let a = c16.args in
    let k = held a.s a.image.now a.variables.now in
    let l = lent a.accounts.now a.challenge.now a.addresses.now a.made a.time a.out.now in
    let f = frame_request _ _ (sym c8.in-Ok.is ∙
    c8.read_frame.ensures.read) in
    call_goes k l a.input.now _ (room_is k l c16.room_of-room.ensures)
    c8.in_default.ensures
    (call_if _ f.0 (call_else _ f.1 c.framed_call.ensures))
