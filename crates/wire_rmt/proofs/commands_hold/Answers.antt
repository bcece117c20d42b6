use Rattle.wire_rmt.proofs.Commands.{commands}
use Rattle.wire_rmt.proofs.commands_hold.Goals as goal

-- By the laws of proofs/Commands.antt.
pub returns : goal.returns
returns c = commands
