use Rattle.md5_digest.specs.Md5.{compressed}
use Rattle.md5_digest.proofs.compress.Goals as goal

pub returns : goal.returns
unfolding compressed
returns c = cc
