use mathlib.Core.Path.{◌∙◌}
use native.Mathlib.Omega.{arith}
use Rattle.std.specs.Prelude.{Some, None}
use Rattle.xdr_opaque.proofs.Laws.{word_within, opaque_within}
use Rattle.wire_accounts.proofs.Laws.{no_word, no_id, no_password, no_kind, of_kind, account_there}
use Rattle.wire_accounts.proofs.account_at.Goals as goal

pub returns-in_err-number-clause-read : goal.returns-in_err-number-clause-read
returns-in_err-number-clause-read c = rw c.from_residual.ensures (no_word _ _ c.in_err-number.ensures)

pub returns-in_err-id-clause-read : goal.returns-in_err-id-clause-read
returns-in_err-id-clause-read c = rw c.from_residual-in_err-id.ensures (no_id _ _ c.in_err-id.ensures)

pub returns-in_err-password-clause-read : goal.returns-in_err-password-clause-read
returns-in_err-password-clause-read c = rw c.from_residual-in_err-password.ensures (no_password _ _ _ c.in_ok-id.ensures c.in_err-password.ensures)

pub returns-in_err-kind-clause-read : goal.returns-in_err-kind-clause-read
returns-in_err-kind-clause-read c = let w = word_within _ _ _ c.in_ok-number.ensures in
    rw c.from_residual-in_err-kind.ensures (no_kind _ _ _ w.1 (of_kind _ _ None c.in_err-kind.ensures.value c.try_from.ensures))

pub overflow_add-account : goal.overflow_add-account
overflow_add-account c = omega (arith, opaque_within _ _ _ c.in_ok-id.ensures)

pub slice_bounds-account-end : goal.slice_bounds-account-end
slice_bounds-account-end c = let w = opaque_within _ _ _ c.in_ok-id.ensures in omega arith

pub overflow_add-account-2 : goal.overflow_add-account-2
overflow_add-account-2 c = let w = opaque_within _ _ _ c.in_ok-password.ensures in omega arith

pub slice_bounds-account-end-2 : goal.slice_bounds-account-end-2
slice_bounds-account-end-2 c = let w = opaque_within _ _ _ c.in_ok-password.ensures in omega arith

pub returns-clause-read : goal.returns-clause-read
returns-clause-read c =
    let w = word_within _ _ _ c.in_ok-number.ensures in
    account_there _ _ _ _ _ (of_kind _ _ (Some _) c.in_ok-kind.ensures.value c.try_from.ensures ∙ w.1) c.in_ok-id.ensures c.in_ok-password.ensures

pub returns-clause-within : goal.returns-clause-within
returns-clause-within c = (opaque_within _ _ _ c.in_ok-password.ensures).1
