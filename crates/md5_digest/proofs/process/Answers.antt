use Rattle.std.proofs.Common.{◌≡◌, ◌+◌, ◌-◌, ◌*◌, sym, ◌∙◌, arith}
use Rattle.md5_digest.proofs.Laws.{processed_next, processed_done}
use Rattle.md5_digest.proofs.process.Goals as goal

pub loop-k-preserved : goal.loop-k-preserved
loop-k-preserved c =
    let part : 64 * c.loop-k.k + 64 - 64 * c.loop-k.k ≡ 64 = omega arith in
    c.loop-k.invariant ∙ processed_next _ _ _ _ _ c.loop-k-test.true (rw part at c.compress-q.ensures)

pub returns : goal.returns
returns c = sym (c.loop-k.invariant ∙ sym (processed_done _ _ _ _ c.loop-k-test.false))
