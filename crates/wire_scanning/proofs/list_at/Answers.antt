use mathlib.Core.Path.{◌∙◌}
use native.Mathlib.Omega.{arith}
use Rattle.std.specs.Prelude.{Some, None}
use Rattle.xdr_opaque.proofs.Laws.{word_within}
use Rattle.wire_scanning.proofs.Cases.{misses_count, too_many, list_seen}
use Rattle.wire_scanning.proofs.list_at.Goals as goal

pub returns-in_err-count : goal.returns-in_err-count
returns-in_err-count g c = λ e p. c.from_residual.ensures ∙ misses_count _ _ _ e c.in_err-count.ensures

pub returns-then-most-count : goal.returns-then-most-count
returns-then-most-count g c = λ e p. too_many _ _ _ e _ c.in_ok-count.ensures (omega arith)

pub overflow_add-at : goal.overflow_add-at
overflow_add-at g c = let w = word_within _ _ _ c.in_ok-count.ensures in omega (arith, w.0)

pub returns-in_err-next : goal.returns-in_err-next
returns-in_err-next g c = λ e p. c.from_residual-in_err-next.ensures ∙ list_seen _ _ _ e _ None c.in_ok-count.ensures (omega arith) (c.in_err-next.ensures e p)

pub returns : goal.returns
returns g c = λ e p. list_seen _ _ _ e _ (Some _) c.in_ok-count.ensures (omega arith) (c.in_ok-next.ensures e p)
