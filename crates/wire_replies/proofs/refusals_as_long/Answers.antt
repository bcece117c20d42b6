use Rattle.wire_replies.proofs.Laws.{as_long}
use Rattle.wire_replies.proofs.refusals_as_long.Goals as goal

-- Each row of the table is computed, in `Laws`.
pub returns : goal.returns
returns c = as_long
