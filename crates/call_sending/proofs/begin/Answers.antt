use Rattle.rules.specs.Calls.{opening}
use Rattle.xdr.proofs.Tests.{ltb_yes, ltb_no, asked_not}
use Rattle.call_sending.proofs.Calling.{call_if, call_else, announced}
use mathlib.Core.Path.{ap}
use mathlib.Core.Bool.{not}
use Rattle.call_sending.proofs.begin.Goals as goal

pub returns-then-out-lt-LARGEST_MESSAGE : goal.returns-then-out-lt-LARGEST_MESSAGE
unfolding opening
returns-then-out-lt-LARGEST_MESSAGE c = call_if _ (ltb_yes c.if-out-lt-LARGEST_MESSAGE.true) (c.unopened.ensures _)

pub returns-then-not-names_none_twice : goal.returns-then-not-names_none_twice
unfolding opening
returns-then-not-names_none_twice c = call_else _ (ltb_no c.if-out-lt-LARGEST_MESSAGE.false)
    (call_if _ (asked_not c.names_none_twice.ensures (ap not c.if-not-names_none_twice.true)) (c.unopened-then-not-names_none_twice.ensures _))

pub returns : goal.returns
unfolding opening
returns c = let c4 = c in
    let c5 = c4 in
    call_else _ (ltb_no c5.if-out-lt-LARGEST_MESSAGE.false)
    (call_else _ (asked_not c5.names_none_twice.ensures (ap not c5.if-not-names_none_twice.false))
    (announced _ _ _ _ _ _ c.write_notice-len.ensures.put c.begins-session.ensures))
