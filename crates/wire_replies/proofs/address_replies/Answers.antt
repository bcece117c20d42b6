use Rattle.wire_replies.proofs.Laws.{addresses}
use Rattle.wire_replies.proofs.address_replies.Goals as goal

-- Each body is computed, in `Laws`.
pub returns : goal.returns
returns c = addresses
