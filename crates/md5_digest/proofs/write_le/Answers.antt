use Rattle.std.proofs.Common.{◌∙◌, arith}
use Rattle.xdr.proofs.Laws.{written}
use Rattle.md5_digest.specs.Md5.{le32}
use Rattle.md5_digest.proofs.write_le.Goals as goal

pub returns : goal.returns
unfolding le32
returns c = written _ _ _ _ _ (c.copy_from_slice.ensures.after ∙ c.to_le_bytes.ensures) (omega arith)
