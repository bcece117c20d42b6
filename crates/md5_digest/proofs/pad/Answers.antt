use Rattle.md5_digest.proofs.Laws.{pad_told}
use Rattle.md5_digest.proofs.pad.Goals as goal

pub returns : goal.returns
returns c = let p = c.requires in
    pad_told _ _ _ _ _ _ p.rests p.zeroed c.copy_bytes.ensures c.padded_end-end.ensures (rw c.to_le_bytes.ensures at c.copy_bytes-2.ensures)
