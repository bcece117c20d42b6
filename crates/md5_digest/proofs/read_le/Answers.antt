use Rattle.md5_digest.specs.Md5.{le_word}
use Rattle.md5_digest.proofs.read_le.Goals as goal

pub returns : goal.returns
unfolding le_word
returns c = c.from_le_bytes.ensures
