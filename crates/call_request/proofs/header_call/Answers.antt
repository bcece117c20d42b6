use native.Mathlib.Omega.{arith}
use Rattle.call_request.proofs.Routing.{header_sends}
use borrow.Author.Rules.{rules}
use Rattle.call_request.proofs.header_call.Goals as goal

pub finish-requires : goal.finish-requires
finish-requires c = let pre = c.requires in (record { long = pre.long; room = omega (arith, pre.room) }, header_sends _ _)

pub returns : goal.returns
returns c = λ image variables. rw c.number.ensures at (c.finish.ensures.1 image variables)
