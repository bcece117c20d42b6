use Rattle.std.proofs.Common.{◌≡◌, ◌*◌, ◌/◌, ◌≤◌, ◌<◌, sym, ◌∙◌, arith}
use Rattle.md5_digest.proofs.Laws.{amount_there, turned, stepped_is, operations_next, operations_done}
use Rattle.md5_digest.proofs.one_round.Goals as goal

pub loop-i-preserved : goal.loop-i-preserved
loop-i-preserved g c =
    let own = c.requires.own in
    let i = c.loop-i.i in
    let least : 16 * c.args.round ≤ i = omega arith in
    let one : i < 64 = omega (arith, own.one) in
    let round : c.args.round ≡ i / 16 = omega arith in
    let amount = amount_there c.args.round i c.args.shifts least c.loop-i-test.true own.one own.rotates in
    let order = own.orders _ _ one c.word.ensures in
    c.loop-i.invariant ∙ operations_next _ _ _ _ _ c.loop-i-test.true
    (stepped_is c.args.round i _ _ _ _ _ _ round (own.mixes _ _ _ _ c.mix-mixed.ensures) order.is c.read_le-given.ensures
    (c.rotate_left.ensures ∙ rw amount (turned i _ one)))

pub returns : goal.returns
returns g c = sym (c.loop-i.invariant ∙ sym (operations_done _ _ _ _ c.loop-i-test.false))
