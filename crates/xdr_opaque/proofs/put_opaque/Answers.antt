use native.Mathlib.Omega.{arith}
use mathlib.Core.Path.{refl}
use Rattle.xdr_opaque.proofs.Laws.{put_opaque}
use Rattle.xdr_opaque.proofs.put_opaque.Goals as goal

pub returns : goal.returns
returns c = put_opaque _ _ _ _ _ _ _ _ c.write_word.ensures
    c.copy_bytes.ensures c.zero_fill.ensures (omega arith) refl
