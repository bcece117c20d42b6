use Rattle.std.proofs.Common.{refl}
use Rattle.xdr.specs.Choose.{choose}
use Rattle.md5_digest.specs.Md5.{index_of, shift_of, md5, le32, md5_registers, processed, padding, compressed, operations, stepped}
use Rattle.md5_digest.specs.Md5.{auxiliary_of, rotated, le_word}
use Rattle.md5_digest.specs.Login.{login_string, login_digest}
use Rattle.md5_digest.proofs.Login.{length_login}
use Rattle.md5_digest.proofs.login_cases_hold.Goals as goal

-- Each case is computed: the definitions unfold, and both sides are one term.
pub returns : goal.returns
unfolding login_string login_digest choose index_of shift_of md5 le32 md5_registers processed padding compressed operations stepped auxiliary_of rotated le_word
returns c = record { short = refl; long = refl; whole = length_login; digest = refl }
