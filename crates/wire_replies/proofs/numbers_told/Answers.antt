use Rattle.wire_replies.proofs.Numbers.{numbers_told}
use Rattle.wire_replies.proofs.numbers_told.Goals as goal

-- By the law of proofs/Numbers.antt.
pub returns : goal.returns
returns c = numbers_told
