use Rattle.std.proofs.Common.{ap, ◌∙◌, ◌+◌}
use native.Mathlib.Omega.{arith}
use Rattle.xdr.proofs.Tests.{asked}
use Rattle.wire_pairs.proofs.Sizes.{laid_count}
use Rattle.wire_pairs.proofs.Giving.{laid_long, count_kept, count_more}
use Rattle.wire_giving.proofs.Store.count.Goals as goal

-- The kept pairs, and one more where no name is the separator's.
pub read_word-kept-requires : goal.read_word-kept-requires
read_word-kept-requires c = omega (arith, laid_long _ c.args.self.laid)

pub overflow_add-result : goal.overflow_add-result
overflow_add-result c = omega (arith, laid_count _ c.args.self.laid)

pub returns-then-is_named : goal.returns-then-is_named
returns-then-is_named c = c.read_word-kept.ensures ∙ count_kept _ (asked c.is_named.ensures c.if-is_named.true)

pub returns-else-is_named : goal.returns-else-is_named
returns-else-is_named c = ap (λ n. n + 1) c.read_word-kept.ensures ∙ count_more _ (asked c.is_named.ensures c.if-is_named.false)
