use Rattle.md5_digest.proofs.Login.{login_told}
use Rattle.md5_digest.proofs.write_login.Goals as goal

-- Three writes into zeros; what they leave is `login_told`.
pub returns : goal.returns
returns c = let p = c.requires in
    let first = c.copy_bytes.ensures in
    let second = c.copy_bytes-2.ensures in
    login_told _ _ _ _ _ _ p.short p.given p.zeroed first second c.copy_bytes-3.ensures
