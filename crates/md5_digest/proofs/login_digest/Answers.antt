use Rattle.std.proofs.Common.{ap, ◌∙◌}
use Rattle.md5_digest.specs.Md5.{md5}
use Rattle.md5_digest.specs.Login.{login_digest}
use Rattle.md5_digest.proofs.login_digest.Goals as goal

pub returns : goal.returns
unfolding login_digest
returns c = c.digest.ensures ∙ ap md5 c.write_login.ensures
