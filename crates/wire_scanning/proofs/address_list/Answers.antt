use Rattle.wire_layouts.specs.Layout.{field_at}
use Rattle.wire_layouts.specs.Scans.{address_at}
use Rattle.std.proofs.Common.{rules}
use Rattle.wire_scanning.proofs.address_list.Goals as goal

pub returns : goal.returns
unfolding field_at
returns c = c.list_at.ensures (address_at c.args.body.now) (λ at next h q. search (q, rules))
