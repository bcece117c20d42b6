use Rattle.wire_layouts.specs.Layout.{field_at, parts_at}
use Rattle.std.proofs.Common.{rules}
use Rattle.wire_scanning.proofs.many_at.Goals as goal

pub returns : goal.returns
unfolding field_at
returns c = c.list_at.ensures (parts_at c.args.parts.now c.args.body.now) (λ at next h q. search (q, rules))
