use mathlib.Core.Path.{◌∙◌}
use native.Mathlib.Omega.{arith}
use Rattle.xdr.proofs.Laws.{written, be64_is, length_be64}
use Rattle.xdr.proofs.write_hyper.Goals as goal

pub returns : goal.returns
returns c = written _ _ _ _ _ (c.copy_from_slice.ensures.after ∙ c.to_be_bytes.ensures ∙ be64_is c.args.v) (rw length_be64 (omega arith))
