use Rattle.wire_replies.proofs.Laws.{auth_types}
use Rattle.wire_replies.proofs.auth_replies.Goals as goal

-- Each body is computed, in `Laws`.
pub returns : goal.returns
returns c = auth_types
