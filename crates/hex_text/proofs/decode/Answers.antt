use Prim.Native.Nat.{◌+◌}
use Rattle.std.proofs.Common.{sym, ◌∙◌, arith}
use Rattle.xdr.proofs.Tests.{asked}
use Rattle.hex_text.proofs.Laws.{start, all_read, blank_read, half_read, other_read, no_room, byte_read, at_place, at_next, none_left}
use Rattle.hex_text.proofs.decode.Goals as goal

pub loop-i-init : goal.loop-i-init
loop-i-init c = start _ _

pub loop-i-preserved-then-is_blank : goal.loop-i-preserved-then-is_blank
loop-i-preserved-then-is_blank c =
    blank_read c.loop-i.invariant _ _ (at_place _ _ c.loop-i-test.true) (asked c.is_blank.ensures c.if-is_blank.true)

pub returns-then-text-i-lt2 : goal.returns-then-text-i-lt2
returns-then-text-i-lt2 c =
    half_read c.loop-i.invariant _ _ (at_place _ _ c.loop-i-test.true) (asked c.is_blank.ensures c.if-is_blank.false)
    (none_left c.args.text.now (c.loop-i.i + 1) (omega arith))

pub returns-in_default : goal.returns-in_default
returns-in_default c =
    other_read c.loop-i.invariant _ _ (at_place _ _ c.loop-i-test.true) _ _ (at_next c.args.text.now c.loop-i.i (omega arith))
    (asked c.is_blank.ensures c.if-is_blank.false) (sym c.pair.ensures ∙ c.in_default.is)

pub returns-then-n-out : goal.returns-then-n-out
returns-then-n-out c =
    no_room c.loop-i.invariant _ _ (at_place _ _ c.loop-i-test.true) _ _ (at_next c.args.text.now c.loop-i.i (omega arith))
    (asked c.is_blank.ensures c.if-is_blank.false) _ (sym c.pair.ensures ∙ c.in-Some.is) (omega arith)

pub loop-i-preserved : goal.loop-i-preserved
loop-i-preserved c =
    byte_read c.loop-i.invariant _ _ (at_place _ _ c.loop-i-test.true) _ _ (at_next c.args.text.now c.loop-i.i (omega arith))
    (asked c.is_blank.ensures c.if-is_blank.false) _ (sym c.pair.ensures ∙ c.in-Some.is) (omega arith)

pub returns : goal.returns
returns c = all_read c.loop-i.invariant (none_left c.args.text.now c.loop-i.i (omega arith))
