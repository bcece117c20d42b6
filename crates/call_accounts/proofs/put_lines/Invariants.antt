use Rattle.wire_accounts.specs.Walk.{to_come}
use Rattle.call_accounts.proofs.Laws.{Going}
use Rattle.call_accounts.proofs.put_lines.Given as goal

-- Invariant: what is written and the lines of the accounts to come make the lines of all.
abbrev pub invariant-loop-account : goal.invariant-loop-account
invariant-loop-account l = Going (to_come l.fn.accounts) (to_come l.account-iterator) l.number l.initial.out l.next l.out
