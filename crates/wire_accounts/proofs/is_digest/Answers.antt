use Rattle.std.proofs.Common.{sym}
use native.Mathlib.Omega.{arith}
use borrow.Author.Tests.{eqb-true, eqb-false}
use Rattle.wire_accounts.proofs.Laws.{digest_empty, digest_long, digest_made}
use Rattle.wire_accounts.proofs.is_digest.Goals as goal

-- The length decides whether there is a digest.
pub returns-then-is_empty : goal.returns-then-is_empty
returns-then-is_empty c = let e = eqb-true _ _ (sym c.if-is_empty.ensures) in digest_empty _ _ _ (omega arith)

pub returns-then-password-gt-LONGEST_PASSWORD : goal.returns-then-password-gt-LONGEST_PASSWORD
returns-then-password-gt-LONGEST_PASSWORD c = digest_long _ _ _ c.if-password-gt-LONGEST_PASSWORD.true

pub returns : goal.returns
returns c =
    let e = eqb-false _ _ (sym c.if-is_empty.ensures) in
    digest_made _ _ _ _ _ (omega arith) (omega arith) c.login_digest-wanted.ensures c.same.ensures
