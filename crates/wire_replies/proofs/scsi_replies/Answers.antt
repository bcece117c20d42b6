use Rattle.wire_replies.proofs.Laws.{scsi_bodies}
use Rattle.wire_replies.proofs.scsi_replies.Goals as goal

-- Each body is computed, in `Laws`.
pub returns : goal.returns
returns c = scsi_bodies
