use Rattle.wire_accounts.specs.Accounts.{md5_matches, entries_in}
use Rattle.wire_accounts.specs.Walk.{to_come}
use Rattle.wire_accounts.proofs.Laws.{Going}
use Rattle.wire_accounts.proofs.lets_in_by_md5.Given as goal

-- Invariant: whether an account before let in, or one of those to come does, is whether one of all does.
abbrev pub invariant-loop-account : goal.invariant-loop-account
invariant-loop-account l = Going (md5_matches l.id l.challenge l.digest) (entries_in l.accounts) l.some (to_come l.account-iterator)
