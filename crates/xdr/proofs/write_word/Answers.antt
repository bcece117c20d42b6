use mathlib.Core.Path.{◌∙◌}
use native.Mathlib.Omega.{arith}
use Rattle.xdr.proofs.Laws.{written, be32_is, length_be32}
use Rattle.xdr.proofs.write_word.Goals as goal

pub returns : goal.returns
returns c = written _ _ _ _ _ (c.copy_from_slice.ensures.after ∙ c.to_be_bytes.ensures ∙ be32_is c.args.v) (rw length_be32 (omega arith))
