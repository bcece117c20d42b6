use native.Mathlib.Omega.{arith}
use Rattle.wire_accounts.proofs.Laws.{laid_on, is_there, entries_on, entries_end}
use Rattle.wire_accounts.proofs.AccountsIterator.next.Goals as goal

pub returns-then-self-eq0-clause-steps : goal.returns-then-self-eq0-clause-steps
returns-then-self-eq0-clause-steps c = (entries_end _ _ _ (omega arith), entries_end _ _ _ (omega arith))

-- Every account of a buffer that is laid out so is there.
pub unwrap-at-requires : goal.unwrap-at-requires
unwrap-at-requires c = is_there c.args.self.now.laid (omega arith) _ c.account_at.ensures.read

pub invariant_of-self : goal.invariant_of-self
invariant_of-self c =
    let r = rw c.unwrap-at.ensures at c.account_at.ensures.read in
    let w = rw c.unwrap-at.ensures at c.account_at.ensures.within in
    record { laid = laid_on c.args.self.now.laid (omega arith) r w }

pub returns-clause-steps : goal.returns-clause-steps
returns-clause-steps c =
    let r = rw c.unwrap-at.ensures at c.account_at.ensures.read in
    let w = rw c.unwrap-at.ensures at c.account_at.ensures.within in
    entries_on c.args.self.now.laid (omega arith) r w
