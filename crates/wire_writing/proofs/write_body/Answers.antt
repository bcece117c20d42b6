use Rattle.wire_replies.specs.Replies.{shape_of}
use Rattle.wire_writing.proofs.Laws.{no_body}
use Rattle.wire_writing.proofs.write_body.Goals as goal

pub returns-in-Header : goal.returns-in-Header
unfolding shape_of
returns-in-Header c = rw c.in-Header.is no_body
