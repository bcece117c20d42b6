use mathlib.Core.Path.{refl}
use mathlib.Core.List.{◌∷◌}
use Rattle.std.proofs.Common.{rules}
use Rattle.wire_layouts.specs.Layout.{one}
use Rattle.wire_layouts.specs.declared.Part.TheVariants.{Word as word}
use Rattle.wire_requests.specs.Bodies.{connect_fields, joint_body}
use Rattle.wire_decoding.proofs.Laws.{by_type}
use Rattle.wire_decoding.proofs.decode_joint.Goals as goal

pub returns-in-DataConnect : goal.returns-in-DataConnect
unfolding joint_body
returns-in-DataConnect c = rw (c.in-DataConnect.is, ← by_type connect_fields _ _ refl refl _ _ c.scan_by_type.ensures) (search rules)

pub returns-in-MoverConnect : goal.returns-in-MoverConnect
unfolding joint_body
returns-in-MoverConnect c = rw (c.in-MoverConnect.is, ← by_type (λ t. one word ∷ connect_fields t) _ _ refl refl _ _ c.scan_by_type-in-MoverConnect.ensures) (search rules)
