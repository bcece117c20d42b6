use mathlib.Core.Path.{◌∙◌}
use Rattle.std.specs.Prelude.{Some, None}
use Rattle.wire_layouts.specs.Layout.{field_at}
use Rattle.wire_scanning.proofs.Cases.{after_list, no_element}
use Rattle.wire_scanning.proofs.address_at.Goals as goal

pub returns-in_err-next : goal.returns-in_err-next
returns-in_err-next c = c.from_residual.ensures ∙ no_element _ _ _ _ _ c.in_err-next.ensures

pub returns-in_err-many_at : goal.returns-in_err-many_at
unfolding field_at
returns-in_err-many_at c = c.from_residual-in_err-many_at.ensures ∙ after_list _ _ _ _ _ _ None c.in_ok-next.ensures c.in_err-many_at.ensures

pub returns : goal.returns
unfolding field_at
returns c = c.past_field.ensures ∙ after_list _ _ _ _ _ _ (Some _) c.in_ok-next.ensures c.in_ok-many_at.ensures
