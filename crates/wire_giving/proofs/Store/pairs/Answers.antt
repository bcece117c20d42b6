use mathlib.Core.Path.{sym}
use native.Mathlib.Omega.{arith}
use Rattle.wire_pairs.proofs.Giving.{left_all, laid_long, all_kept}
use Rattle.wire_giving.proofs.Store.pairs.Goals as goal

pub read_word-left-requires : goal.read_word-left-requires
read_word-left-requires c = omega (arith, laid_long _ c.args.self.laid)

pub invariant_of-result : goal.invariant_of-result
invariant_of-result c = record { walk = left_all _ _ c.read_word-left.ensures c.args.self.laid }

pub returns : goal.returns
returns c = sym (all_kept _ _ c.read_word-left.ensures)
