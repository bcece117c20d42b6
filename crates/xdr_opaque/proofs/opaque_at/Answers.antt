use Rattle.std.proofs.Common.{◌∙◌}
use Rattle.xdr.proofs.Tests.{asked}
use Rattle.xdr_opaque.proofs.Laws.{word_within, opaque_short, opaque_cut, opaque_rubbish, opaque_whole}
use native.Mathlib.Omega.{arith}
use Rattle.xdr_opaque.proofs.opaque_at.Goals as goal

-- Which of the tests failed, or that none did, picks the case of the definition.
pub returns-in_err-len : goal.returns-in_err-len
returns-in_err-len c = c.from_residual.ensures ∙ opaque_short _ _ c.in_err-len.ensures

pub returns-then-s-start : goal.returns-then-s-start
returns-then-s-start c = opaque_cut _ _ _ c.in_ok-len.ensures (omega arith)

pub returns-then-not-all_zero : goal.returns-then-not-all_zero
returns-then-not-all_zero c = opaque_rubbish _ _ _ c.in_ok-len.ensures (omega (arith, (word_within _ _ _ c.in_ok-len.ensures).0)) (asked c.all_zero.ensures c.if-not-all_zero.true)

pub returns : goal.returns
returns c = opaque_whole _ _ _ c.in_ok-len.ensures (omega (arith, (word_within _ _ _ c.in_ok-len.ensures).0)) (asked c.all_zero.ensures c.if-not-all_zero.false)
