use lib.ListN.{length-replicate}
use Rattle.xdr.proofs.Laws.{length_be32s, be32s_zeros}
use Rattle.xdr_opaque.proofs.Laws.{put}
use Rattle.xdr_opaque.proofs.put_zero_words.Goals as goal

pub returns : goal.returns
returns c = put _ (rw be32s_zeros at c.zero_fill.ensures) (rw (length_be32s, length-replicate))
