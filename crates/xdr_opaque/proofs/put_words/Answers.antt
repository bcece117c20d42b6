use Rattle.xdr.proofs.Laws.{length_be32s}
use Rattle.xdr_opaque.proofs.Laws.{put}
use Rattle.xdr_opaque.proofs.put_words.Goals as goal

pub returns : goal.returns
returns c = put _ c.write_words.ensures (rw length_be32s)
