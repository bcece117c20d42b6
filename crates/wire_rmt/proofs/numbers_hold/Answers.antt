use Rattle.wire_rmt.proofs.Numbers.{numbers}
use Rattle.wire_rmt.proofs.numbers_hold.Goals as goal

-- By the laws of proofs/Numbers.antt.
pub returns : goal.returns
returns c = numbers
