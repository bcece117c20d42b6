use Rattle.wire_writing.proofs.Laws.{only}
use Rattle.wire_writing.proofs.put_body.Goals as goal

pub returns : goal.returns
returns c = only _ c.put_words.ensures
