use Rattle.xdr.proofs.Laws.{rest}
use Rattle.md5_digest.proofs.Laws.{registers_told}
use Rattle.md5_digest.proofs.registers_of.Goals as goal

pub returns : goal.returns
returns c = let front = c.process-q.ensures in
    let padded = c.pad-end.ensures in
    registers_told _ _ _ _ _ front (rw rest at padded) c.process.ensures
