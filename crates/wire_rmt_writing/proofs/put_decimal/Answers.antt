use mathlib.Core.Path.{refl}
use native.Mathlib.Omega.{arith}
use borrow.Author.Rules.{rules}
use Rattle.wire_rmt_writing.proofs.Laws.{going_first, going_on, going_end}
use Rattle.wire_rmt_writing.proofs.put_decimal.Goals as goal

pub loop-i-init : goal.loop-i-init
loop-i-init c = (refl, going_first _ c.digit_count-count.ensures.0)

pub loop-i-preserved : goal.loop-i-preserved
loop-i-preserved c = (search rules, going_on c.loop-i.invariant.1 (omega arith) (omega arith) c.loop-i.invariant.0)

pub returns : goal.returns
returns c = going_end c.loop-i.invariant.1 _ (omega arith) c.digit_count-count.ensures.0
