use mathlib.Core.Path.{sym, ◌∙◌}
use native.Mathlib.Omega.{arith}
use Rattle.xdr_opaque.proofs.Laws.{opaque_within}
use Rattle.wire_pairs.proofs.Storing.{text_read, text_missing}
use Rattle.wire_storing.proofs.text_at.Goals as goal

pub overflow_add-result : goal.overflow_add-result
overflow_add-result c = let w = opaque_within _ _ _ (sym c.in-Some.is ∙ c.opaque_at.ensures) in omega arith

pub slice_bounds-result-end : goal.slice_bounds-result-end
slice_bounds-result-end c = let w = opaque_within _ _ _ (sym c.in-Some.is ∙ c.opaque_at.ensures) in omega arith

pub returns-in-Some : goal.returns-in-Some
returns-in-Some c = let r = text_read _ _ _ (sym c.in-Some.is ∙ c.opaque_at.ensures) in record { bytes = r.0; next = r.1 }

pub returns-in-None : goal.returns-in-None
returns-in-None c = let r = text_missing _ _ (sym c.in-None.is ∙ c.opaque_at.ensures) in record { bytes = r.0; next = r.1 }
