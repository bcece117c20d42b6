-- The walk through the accounts of a buffer.
use Rattle.std.specs.Prelude.{List}
use Rattle.wire_accounts.specs.Accounts.{AccountEntry, accounts_from, entries_of}
use Rattle.wire_accounts.specs.declared.Accounts.{Accounts}

-- the entries that are still to come
abbrev pub to_come : Accounts → List AccountEntry
to_come a = entries_of (accounts_from a.buffer.now a.left a.at)
