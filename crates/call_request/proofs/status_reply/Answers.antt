use mathlib.Core.Path.{sym}
use lib.Seq.{length-take-le}
use native.Mathlib.Omega.{arith}
use Rattle.rules.specs.Answer.{held}
use Rattle.wire_replies.specs.declared.Reply.TheVariants as Reply
use Rattle.call_request.proofs.Routing.{status_sends, shows_as}
use Rattle.call_request.proofs.status_reply.Goals as goal

pub slice_bounds-finish-end : goal.slice_bounds-finish-end
slice_bounds-finish-end c = sym (length-take-le _ _ (omega (arith, c.write_status-n.ensures.few, c.status-2-1.given)))

pub finish-requires : goal.finish-requires
finish-requires c = let pre = c.requires in
    (record { long = pre.long; room = omega (arith, pre.room) }, status_sends _ _ _ _ c.write_status-n.ensures)

pub returns : goal.returns
returns c = let c6 = c in
    λ image variables.
    let a = c6.args in
    shows_as a.input.now a.time Reply.Elements (held a.s image variables) c6.write_status-n.ensures.bytes
    (c.finish.ensures.1 image variables)
