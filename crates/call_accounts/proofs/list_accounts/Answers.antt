use native.Mathlib.Omega.{arith}
use Rattle.wire_accounts.proofs.Entries.{few}
use Rattle.call_accounts.proofs.Laws.{told_short, told_lines, told_none}
use Rattle.call_accounts.proofs.list_accounts.Goals as goal

pub returns-then-out-lt-LEAST_LISTING : goal.returns-then-out-lt-LEAST_LISTING
returns-then-out-lt-LEAST_LISTING c = told_short _ _ c.if-out-lt-LEAST_LISTING.true

pub returns-in_default : goal.returns-in_default
returns-in_default c = told_none _ _ (omega arith) c.in_default.ensures

pub put_lines-len-requires : goal.put_lines-len-requires
put_lines-len-requires c =
    let e = c.in-Some.ensures.1 in
    (omega arith, rw (← e) (few c.args.accounts.now))

pub returns : goal.returns
returns c = told_lines _ _ _ _ _ (omega arith) c.in-Some.ensures.1 c.put_lines-len.ensures
