use Rattle.tape_ops.proofs.Promises.{promises}
use Rattle.tape_ops.proofs.promises_hold.Goals as goal

-- The promises are the theorems of `Promises`, one for each field.
pub returns : goal.returns
returns c = promises
