use Prim.Native.Nat.{◌-◌, ◌≤◌}
use mathlib.Core.Path.{◌≡◌}
use lib.ListN.{length}
use Rattle.wire_accounts.specs.Accounts.{are_laid, accounts_in, accounts_from}
use Rattle.wire_accounts.proofs.is_laid.Given as goal

-- Invariant: the accounts that are left, from where the loop stands, are laid out so exactly when all are.
abbrev pub invariant-loop-i : goal.invariant-loop-i
invariant-loop-i l =
    (l.at ≤ length l.accounts) × (are_laid (accounts_in l.accounts) ≡ are_laid (accounts_from l.accounts (l.count - l.i) l.at))
