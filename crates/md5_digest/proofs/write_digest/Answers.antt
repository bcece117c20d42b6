use Rattle.md5_digest.proofs.Laws.{digest_told}
use Rattle.md5_digest.proofs.write_digest.Goals as goal

pub returns : goal.returns
returns c = let words = c.registers_of-q.ensures in
    let first = c.write_le.ensures in
    let second = c.write_le-2.ensures in
    let third = c.write_le-3.ensures in
    digest_told _ _ _ _ _ _ _ words first second third c.write_le-4.ensures
