use mathlib.Core.Path.{refl}
use Rattle.std.proofs.Common.{rules}
use Rattle.wire_requests.specs.Bodies.{listen_fields, data_body}
use Rattle.wire_decoding.proofs.Laws.{by_type}
use Rattle.wire_decoding.proofs.decode_data.Goals as goal

pub returns-in-Listen : goal.returns-in-Listen
unfolding data_body
returns-in-Listen c = rw (c.in-Listen.is, ← by_type listen_fields _ _ refl refl _ _ c.scan_by_type.ensures) (search rules)
