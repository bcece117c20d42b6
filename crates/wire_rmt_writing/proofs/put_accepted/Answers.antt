use mathlib.Core.Path.{◌∙◌}
use native.Mathlib.Omega.{arith}
use lib.ListN.{length-set}
use Rattle.wire_rmt_writing.proofs.Laws.{decimal_short, accepted_put}
use borrow.Author.Rules.{rules}
use Rattle.wire_rmt_writing.proofs.put_accepted.Goals as goal

pub put_decimal-next-requires : goal.put_decimal-next-requires
put_decimal-next-requires c = simp length-set (omega arith)

pub bounds-out-next : goal.bounds-out-next
bounds-out-next c = let a = c.args in
    let k = c.out-1.given ∙ length-set a.out.now a.at 65 in
    let p = c.put_decimal-next.ensures in
    omega (arith, k, p.end, decimal_short a.n)

pub overflow_add-result : goal.overflow_add-result
overflow_add-result c = let a = c.args in
    let k = c.out-1.given ∙ length-set a.out.now a.at 65 in
    let p = c.put_decimal-next.ensures in
    search (rules, k, p.end, decimal_short a.n)

pub shape_of-out : goal.shape_of-out
shape_of-out c = let a = c.args in
    let p = c.put_decimal-next in
    length-set p.new.out p.result 10 ∙ c.out-1.given ∙ length-set a.out.now a.at 65

pub returns : goal.returns
returns c = accepted_put _ (omega arith) c.put_decimal-next.ensures (bounds-out-next c)
