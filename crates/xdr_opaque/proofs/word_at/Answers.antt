use Rattle.std.proofs.Common.{◌∙◌}
use Rattle.xdr_opaque.proofs.Laws.{word_short, word_there}
use native.Mathlib.Omega.{arith}
use Rattle.xdr_opaque.proofs.word_at.Goals as goal

-- Where the word does not fit there is none; else it is the word there.
pub returns-in_err-last : goal.returns-in_err-last
returns-in_err-last c = c.from_residual.ensures ∙ word_short _ _ (omega (arith, c.in_err-last.ensures))

pub returns-then-last-at : goal.returns-then-last-at
returns-then-last-at c = word_short _ _ (omega (arith, c.in_ok-last.ensures))

pub returns : goal.returns
returns c = word_there _ _ _ (omega (arith, c.in_ok-last.ensures)) (cc)
