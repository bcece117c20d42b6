use native.Mathlib.Omega.{arith}
use Rattle.wire_accounts.proofs.Laws.{unknown}
use Rattle.wire_accounts.proofs.KindTryFromU32.try_from.Goals as goal

pub returns-in_default : goal.returns-in_default
returns-in_default c = unknown _ (λ e. omega arith) (λ e. omega arith)
