use Rattle.wire_replies.proofs.Laws.{environments}
use Rattle.wire_replies.proofs.environment_replies.Goals as goal

-- Each body is computed, in `Laws`.
pub returns : goal.returns
returns c = environments
