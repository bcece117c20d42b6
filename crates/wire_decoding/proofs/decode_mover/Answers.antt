use mathlib.Core.Path.{refl}
use mathlib.Core.List.{◌∷◌}
use Rattle.std.proofs.Common.{rules}
use Rattle.wire_layouts.specs.Layout.{one}
use Rattle.wire_layouts.specs.declared.Part.TheVariants.{Word as word}
use Rattle.wire_requests.specs.Bodies.{listen_fields, mover_body}
use Rattle.wire_decoding.proofs.Laws.{by_type}
use Rattle.wire_decoding.proofs.decode_mover.Goals as goal

pub returns-in-Listen : goal.returns-in-Listen
unfolding mover_body
returns-in-Listen c = rw (c.in-Listen.is, ← by_type (λ t. one word ∷ listen_fields t) _ _ refl refl _ _ c.scan_by_type.ensures) (search rules)
