use mathlib.Core.Path.{sym, ◌∙◌}
use native.Mathlib.Omega.{arith}
use Rattle.xdr_opaque.proofs.Laws.{word_within, word_missing}
use Rattle.wire_pairs.proofs.Storing.{laid_many, laid_few, laid_short}
use Rattle.wire_storing.proofs.is_laid.Goals as goal

-- The count is judged, then the length that its words take, then the pairs.
pub returns-in_default : goal.returns-in_default
returns-in_default c = let h = word_missing _ _ c.in_default.ensures in sym (laid_short _ (omega arith))

pub returns-then-count-gt-MOST_LISTED : goal.returns-then-count-gt-MOST_LISTED
returns-then-count-gt-MOST_LISTED c = let w = word_within _ _ _ c.in-Some.ensures in sym (laid_many _ (omega (arith, w.1)))

pub returns-then-store-count : goal.returns-then-store-count
returns-then-store-count c = let w = word_within _ _ _ c.in-Some.ensures in sym (laid_short _ (omega (arith, w.0, w.1)))

pub returns : goal.returns
returns c = let w = word_within _ _ _ c.in-Some.ensures in c.pairs_laid.ensures ∙ sym (laid_few _ _ w.1 (omega arith))
