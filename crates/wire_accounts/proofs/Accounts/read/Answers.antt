use Rattle.std.proofs.Common.{sym}
use Rattle.wire_accounts.proofs.Laws.{counted, laid_first, entries_first}
use Rattle.wire_accounts.proofs.Accounts.read.Goals as goal

pub read_word-requires : goal.read_word-requires
read_word-requires c = (counted _ (sym c.if-not-is_laid.ensures)).0

pub invariant_of-result : goal.invariant_of-result
invariant_of-result c = record { laid = laid_first _ _ c.read_word.ensures (sym c.if-not-is_laid.ensures) }

pub returns : goal.returns
returns c = let h = sym c.if-not-is_laid.ensures in (h, entries_first _ _ c.read_word.ensures h)
