use mathlib.Core.Path.{◌∙◌}
use Rattle.std.specs.Prelude.{Some, None}
use Rattle.wire_scanning.proofs.Cases.{after_part}
use Rattle.wire_scanning.proofs.part_at.Goals as goal

pub returns-in_err-one_part : goal.returns-in_err-one_part
returns-in_err-one_part c = c.from_residual.ensures ∙ after_part _ _ _ None c.in_err-one_part.ensures

pub returns : goal.returns
returns c = c.past_field.ensures ∙ after_part _ _ _ (Some _) c.in_ok-one_part.ensures
