use native.Mathlib.Omega.{arith}
use Rattle.call_sending.proofs.Calling.{refused_sends, refused_as}
use borrow.Author.Rules.{rules}
use Rattle.call_sending.proofs.refuse.Goals as goal

pub finish-requires : goal.finish-requires
finish-requires c = let pre = c.requires in
    (record { long = pre.long; room = omega (arith, pre.room) }, refused_sends _ c.row_of-row.ensures _)

pub returns : goal.returns
returns c = λ image variables. refused_as _ _ _ _ _
    c.args.s image variables _ _ _
    c.read_word-message.ensures
    c.row_of-row.ensures (c.finish.ensures.1 image variables)
