use Rattle.md5_digest.proofs.Laws.{digest_whole}
use Rattle.std.proofs.Common.{rules}
use Rattle.md5_digest.proofs.digest.Goals as goal

pub returns : goal.returns
returns c = digest_whole _ _ _ c.write_digest.ensures (search rules)
