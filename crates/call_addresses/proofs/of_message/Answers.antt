use mathlib.Core.Path.{◌∙◌}
use Rattle.call_addresses.proofs.Reading.{by_joint, by_no_joint, by_other}
use Rattle.call_addresses.proofs.of_message.Goals as goal

pub returns-in_default : goal.returns-in_default
returns-in_default c = c.empty.ensures ∙ by_other _ _ c.in_default.not-Joint

pub returns-in-Some : goal.returns-in-Some
returns-in-Some c = rw c.in-Joint.is (c.of_joint.ensures ∙ by_joint _ _ c.in-Some.ensures)

pub returns-in-None : goal.returns-in-None
returns-in-None c = rw c.in-Joint.is (c.empty-in-None.ensures ∙ by_no_joint _ _ c.in-None.ensures)
